-- `put_all`: the descriptor of a window is stored; a base register with none is passed over.
use Rattle.std.proofs.Common.{◌*◌, ◌∙◌, sym, arith}
use Rattle.std.proofs.Math.Seq.{length-sets}
use Rattle.resource_descriptor.specs.Descriptor.{size}
use Rattle.resource.specs.Resource.{source_of}
use Rattle.resource.proofs.Turns.{windows_one, windows_none, windows_end, last_one, put_more, put_end}
use Rattle.resource.proofs.resource.put_all.Goals as goal

pub loop-base-preserved-then-not-has_window : goal.loop-base-preserved-then-not-has_window
loop-base-preserved-then-not-has_window c =
    let a = c.args in
    let l = c.loop-base in
    let s = source_of a.records.now a.registers.now a.windows.now a.handle in
    let e = windows_none s.exponent l.base (omega arith)
    (rw (← c.place-function.ensures) (sym c.has_window.ensures ∙ c.if-not-has_window.true)) in
    record {
      few = omega arith;
      sized = l.invariant.sized;
      left = rw e at l.invariant.left;
      ends = rw e at l.invariant.ends;
    }

pub loop-base-preserved : goal.loop-base-preserved
loop-base-preserved c =
    let a = c.args in
    let l = c.loop-base in
    let s = source_of a.records.now a.registers.now a.windows.now a.handle in
    let e = windows_one s.exponent l.base (omega arith)
    (rw (← c.place-function.ensures) (sym c.has_window.ensures ∙ c.if-not-has_window.false)) in
    let t = rw e at l.invariant.left in
    record {
      few = omega arith;
      sized = rw c.put.ensures (simp length-sets l.invariant.sized);
      left = omega (arith, t);
      ends = rw (c.put.ensures, c.descriptor_of-d.ensures, last_one _ _ _ t) (put_more s _ _ _ _ ∙ rw e at l.invariant.ends);
    }

pub returns : goal.returns
returns c =
    let a = c.args in
    let s = source_of a.records.now a.registers.now a.windows.now a.handle in
    let e = windows_end s.exponent c.loop-base.base c.loop-base-test.false in
    sym (put_end s c.loop-base.out (size * c.loop-base.n)) ∙ rw e at c.loop-base.invariant.ends
