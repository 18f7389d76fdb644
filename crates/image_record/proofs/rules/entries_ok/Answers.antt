-- `entries_ok`: the six tests, one after the other.
use Rattle.std.proofs.Common.{◌≡◌, ◌∙◌, refl, Bool, true, false, ◌&&◌, rules}
use Rattle.std.proofs.lemmas.Iterator.{YieldsList-from_range}
use Rattle.std.proofs.lemmas.Iterator.Search.{all_from_yields_List}
use Rattle.image_entry.specs.Entry.{entry_ok}
use Rattle.image_record.specs.Record.{entry_at}
use Rattle.image_record.proofs.rules.entries_ok.Goals as goal

-- the end of a list of tests adds none
and_end : (b : Bool) → (b && true) ≡ b
and_end true = refl
and_end false = refl

pub returns : goal.returns
returns c =
    let r = c.args.r.now in
    all_from_yields_List (λ b. entry_ok (entry_at r b)) _ _ c.all.result c.all.ensures.ran (YieldsList-from_range 0 6 6 refl refl) (λ x b q k. search rules)
    ∙ rw (and_end (entry_ok (entry_at r 5)))
