-- What searches mean (document 01, "Searching"): a statement alone, proved in
-- proofs/Searches.antt.
use Rattle.std.specs.Prelude.{ℕ, zero, suc, ◌+◌, ◌<◌, ◌≤◌, Bool, true, cond, ◌↔◌, ◌≡◌, Ok, Err}
use Rattle.board.specs.declared.status.CallRefusal.TheVariants.{DeviceNotFound}
use Rattle.search.specs.Search.{matching, searched}

-- how many of the first n places match
unfoldable pub matches_before : (ℕ → Bool) → ℕ → ℕ
matches_before m zero = 0
matches_before m (suc n) = matches_before m n + cond (m n) 1 0

-- index n gives the match with exactly n matches before it in table order, -4 exactly if there are
-- n or fewer matches
pub record Indexed (m : ℕ → Bool) (count n : ℕ) : Type 0 where
  pub found : (i : ℕ)
      → (searched (matching m 0 count) n ≡ Ok (i + 1))
      ↔ ((i < count) × ((m i ≡ true) × (matches_before m i ≡ n)))
  pub missing : (searched (matching m 0 count) n ≡ Err DeviceNotFound)
      ↔ (matches_before m count ≤ n)

abbrev pub IndexRule : Type 0
IndexRule = (m : ℕ → Bool) (count n : ℕ) → Indexed m count n
