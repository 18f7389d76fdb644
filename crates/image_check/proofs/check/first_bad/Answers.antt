-- `first_bad`: what the search finds is the first place of the definition.
use Rattle.std.proofs.Common.{◌≡◌, true, false, rules}
use borrow.Author.Tests.{tests}
use Rattle.std.proofs.lemmas.Iterator.{first_from_Range}
use Rattle.image_record.specs.Record.{record_ok}
use Rattle.image_layout.specs.Image.{record_at}
use Rattle.image_check.proofs.Found.{found_bad}
use Rattle.image_check.proofs.check.first_bad.Goals as goal

pub returns : goal.returns
returns c =
    let r = c.args.records.now in
    found_bad (λ i. record_ok (record_at r i)) c.args.count c.find.result
    (first_from_Range _ _ _ c.find.result (λ i. record_ok (record_at r i) ≡ false) (λ i. record_ok (record_at r i) ≡ true) c.find.ensures.ran
    (λ x q k. search (rules, tests)) (λ x q k. search (rules, tests)))
