-- `perform`: each arm by the contract of its call.
use Rattle.std.proofs.Common.{refl}
use Rattle.reference.specs.State.{step}
use Rattle.dispatch.proofs.Arms.{arm_load, arm_reset, arm_write, arm_config, arm_data, arm_resource, arm_hooks, arm_set_used, arm_ask}
use Rattle.dispatch.proofs.perform.perform.Goals as goal

pub returns-in-Load-clause-step : goal.returns-in-Load-clause-step
unfolding step
returns-in-Load-clause-step c = arm_load _ _ _ _ _ _ c.in-Load.is c.of_verdict.ensures c.load.ensures.outcome

pub returns-in-Reset-clause-step : goal.returns-in-Reset-clause-step
unfolding step
returns-in-Reset-clause-step c = arm_reset _ _ _ _ _ _ c.in-Reset.is c.of_status.ensures c.reset.ensures

pub returns-in-WriteImage-clause-step : goal.returns-in-WriteImage-clause-step
unfolding step
returns-in-WriteImage-clause-step c = arm_write _ _ _ _ _ _ c.in-WriteImage.is c.of_verdict-in-WriteImage.ensures c.write_image.ensures

pub returns-in-Config-clause-step : goal.returns-in-Config-clause-step
unfolding step
returns-in-Config-clause-step c =
    rw c.config_access.ensures.rest (arm_config _ _ _ _ _ _ _ _ _ _ c.in-Config.is c.config_access.ensures.outcome)

pub returns-in-Data-clause-step : goal.returns-in-Data-clause-step
unfolding step
returns-in-Data-clause-step c =
    rw c.data_access.ensures.rest
    (arm_data _ _ _ _ _ _ _ _ _ _ c.in-Data.is (rw c.data_address.ensures at c.data_access.ensures.outcome))

pub returns-in-GetResource-clause-step : goal.returns-in-GetResource-clause-step
unfolding step
returns-in-GetResource-clause-step c = arm_resource _ _ _ _ _ _ _ c.in-GetResource.is c.of_status-in-GetResource.ensures c.get_resource.ensures

pub returns-in-HookInterrupt-clause-step : goal.returns-in-HookInterrupt-clause-step
unfolding step
returns-in-HookInterrupt-clause-step c = arm_hooks _ _ _ _ _ _ _ _ c.in-HookInterrupt.is c.of_status-in-HookInterrupt.ensures c.hook_interrupt.ensures refl

pub returns-in-UnhookInterrupt-clause-step : goal.returns-in-UnhookInterrupt-clause-step
unfolding step
returns-in-UnhookInterrupt-clause-step c = arm_hooks _ _ _ _ _ _ _ _ c.in-UnhookInterrupt.is c.of_status-in-UnhookInterrupt.ensures c.unhook_interrupt.ensures refl

pub returns-in-SetCardUsed-clause-step : goal.returns-in-SetCardUsed-clause-step
unfolding step
returns-in-SetCardUsed-clause-step c = arm_set_used _ _ _ _ _ _ _ _ _ c.in-SetCardUsed.is c.of_status-in-SetCardUsed.ensures c.set_card_used.ensures

pub returns-in-Ask-clause-step : goal.returns-in-Ask-clause-step
unfolding step
returns-in-Ask-clause-step c = arm_ask _ _ _ _ _ c.in-Ask.is (c.ask.ensures _ _)
