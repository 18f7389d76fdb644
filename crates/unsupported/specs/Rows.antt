-- Rows with literal numbers of document 01, "Numbers handed back": the calls that always give -2.
use Rattle.std.specs.Prelude.{ℕ, ◌≡◌, neg_ℤ, pos}
use Rattle.board.specs.Statuses.{number_of}
use Rattle.unsupported.specs.Unsupported.{special_cycle, get_routing, set_interrupt}

-- -2 always, whatever the arguments: special cycle, get routing, set interrupt
pub record UnsupportedRows : Type 0 where
  pub cycle : (bus message : ℕ) → number_of (special_cycle bus message) ≡ neg_ℤ (pos 2)
  pub routing : (handle : ℕ) → number_of (get_routing handle) ≡ neg_ℤ (pos 2)
  pub interrupt : (handle mode : ℕ) → number_of (set_interrupt handle mode) ≡ neg_ℤ (pos 2)
