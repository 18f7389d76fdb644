-- `load_any_length`: refused before anything is written; an accepted image is installed, and its
-- cells fit.
use Rattle.std.proofs.Common.{ℕ, List, ◌≡◌, ◌≤◌, ◌∙◌, sym, ap, length, get_or, Ok, arith}
use borrow.Author.Tests.{le-ltb}
use Rattle.std.proofs.lemmas.Result.{err_from_is_err_and}
use Rattle.board.specs.Layout.{windows_max}
use Rattle.board.specs.Parts.{Parts}
use Rattle.board.specs.Statuses.{Status}
use Rattle.reset.specs.Reset.{ResetOutcome, reset_outcome, reset, restarted}
use Rattle.cell_layout.proofs.Ranges.{offset_at_lem}
use Rattle.image_check.specs.Check.{facts_of, checked_any_length}
use Rattle.image_check.proofs.Accepted.{Fine, fine}
use Rattle.image_refusals.specs.Refusals.{Verdict, is_accepted}
use Rattle.load.specs.Load.{load_any_length}
use Rattle.load.proofs.Lists.{padded_total}
use Rattle.load.proofs.calls.load_any_length.Goals as goal

-- what is known of an image that the check lets pass
fine_image : (image : List ℕ) (room : ℕ) (v : Verdict) (u : Unit) → v ≡ checked_any_length image room → v ≡ Ok u → Fine (facts_of image) room
fine_image image room v u checked passed = fine _ _ (ap is_accepted (sym checked ∙ passed))

-- where the cells suffice a reset is not refused
restarts : (p q : Parts) (s : Status) → reset_outcome s q ≡ reset p → get_or p.cell_offsets windows_max 0 ≤ length p.cells
    → q ≡ restarted p.header p.records p.cell_offsets p.cells
unfolding reset
restarts p q s e h = ap (λ (w : ResetOutcome). w.parts) e ∙ rw (le-ltb _ _ h)

pub returns-in_err-check_any_length-clause-outcome : goal.returns-in_err-check_any_length-clause-outcome
unfolding load_any_length
returns-in_err-check_any_length-clause-outcome c =
    let p = err_from_is_err_and c.from_residual.result c.from_residual.ensures.1 in
    rw (p.1, p.2, ← c.check_any_length.ensures, c.in_err-check_any_length.was)

pub install-requires : goal.install-requires
install-requires c =
    let s = c.args in
    let a = fine_image s.image.now (length s.board.now.cells.now) _ _ c.check_any_length.ensures c.in_ok-check_any_length.was in
    (a.few, a.whole)

pub returns-clause-outcome : goal.returns-clause-outcome
unfolding load_any_length
returns-clause-outcome c =
    let i = c.install.ensures in
    let s = c.args in
    let a = fine_image s.image.now (length s.board.now.cells.now) _ _ c.check_any_length.ensures c.in_ok-check_any_length.was in
    let r = restarts _ _ _ c.reset.ensures (rw (i.offsets, offset_at_lem _ windows_max (omega arith), padded_total _) a.fits) in
    rw (r, i.header, i.records, i.offsets, ← c.check_any_length.ensures, c.in_ok-check_any_length.was)
