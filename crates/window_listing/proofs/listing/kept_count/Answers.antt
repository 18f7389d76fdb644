-- `kept_count`: the windows are those before the first number that is none.
use Rattle.std.proofs.Common.{◌≡◌, ◌∙◌, ap, length, rules, unwrap_or}
use Rattle.std.specs.List.{position}
use Rattle.std.proofs.lemmas.Iterator.{YieldsList-from_slice}
use Rattle.std.proofs.lemmas.Iterator.Search.{position_from_yields_List}
use Rattle.window.specs.Kept.{is_end}
use Rattle.window_listing.proofs.Answers.{counted}
use Rattle.window_listing.proofs.listing.kept_count.Goals as goal

pub returns : goal.returns
returns c =
    let l = c.args.list.now in
    let p : c.position.result ≡ position is_end l = position_from_yields_List is_end _ _ _ c.position.ensures.ran (YieldsList-from_slice l cc) (λ x b q h. search rules) in
    c.unwrap_or.ensures ∙ ap (λ o. unwrap_or o (length l)) p ∙ counted l
