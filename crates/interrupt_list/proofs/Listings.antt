-- The chain listing: turns of the walk over the array, and what an answer says.
use Prim.Native.Nat.{ℕ, zero, suc, ◌+◌, ◌-◌, ◌≤◌}
use native.Mathlib.Omega.{arith}
use mathlib.Core.Bool.{Bool, true, false, cond}
use mathlib.Core.List.{List, [], ◌∷◌, ◌++◌}
use mathlib.Core.Path.{◌≡◌, refl, ◌∙◌, ap}
use lib.Dec.{ltb}
use lib.ListN.{length, replicate}
use borrow.Author.Tests.{le-ltb}
use Rattle.board.specs.Layout.{hook_size}
use Rattle.std.specs.Prelude.{Err}
use Rattle.board.specs.Statuses.{number_of, general_error}
use Rattle.board.specs.declared.status.CallRefusal.TheVariants.{DeviceNotFound, GeneralError}
use Rattle.interrupt_array.specs.declared.hooks.Hook.{Hook}
use Rattle.interrupt_array.specs.Hooks.{hooks_from, chosen, last_line}
use Rattle.interrupt_list.specs.Listing.{ChainListing, found_hook, listed_hook, chain_listing, chain_number_of, chain_values_of, hook_listed_number, hook_listed_values, chain_number, chain_values, ListsChain}
use Rattle.interrupt_list.specs.Meaning.{ChainListed}

-- a turn at entry i, where one entry and the rest are left: found, a hook that is counted, an entry that is not on the line
module _ (t : Hook → Bool) (f : ℕ → Hook) (i left rest : ℕ) (more : left ≡ suc rest) where
  pub turn_found : (n : ℕ) → t (f i) ≡ true → n ≡ 0 → listed_hook (chosen t (hooks_from i left f)) n ≡ found_hook (f i)
  unfolding hooks_from chosen listed_hook
  turn_found n e z = rw (more, e, z)

  pub turn_counted : (n : ℕ) → t (f i) ≡ true → (n ≡ 0 → ⊥)
      → listed_hook (chosen t (hooks_from i left f)) n ≡ listed_hook (chosen t (hooks_from (i + 1) rest f)) (n - 1)
  unfolding hooks_from chosen listed_hook
  turn_counted zero e z = absurd (z refl)
  turn_counted (suc n) e z = let back : suc n - 1 ≡ n = omega arith in rw (more, e, back)

  pub turn_passed : (n : ℕ) → t (f i) ≡ false → listed_hook (chosen t (hooks_from i left f)) n ≡ listed_hook (chosen t (hooks_from (i + 1) rest f)) n
  unfolding hooks_from chosen
  turn_passed n e = rw (more, e)

-- an answer's number and values are those that document 01 gives the index
number_is : (chain : List Hook) (index : ℕ) → chain_number_of (listed_hook chain index) ≡ hook_listed_number chain index
unfolding listed_hook hook_listed_number
number_is [] index = refl
number_is (h ∷ hs) zero = refl
number_is (h ∷ hs) (suc index) = number_is hs index

values_are : (chain : List Hook) (index : ℕ) → chain_values_of (listed_hook chain index) ≡ hook_listed_values chain index
unfolding listed_hook hook_listed_values
values_are [] index = refl
values_are (h ∷ hs) zero = refl
values_are (h ∷ hs) (suc index) = values_are hs index

pub chain_number_lem : (chain : List Hook) (line index : ℕ) → chain_number_of (chain_listing chain line index) ≡ chain_number chain line index
chain_number_lem chain line index = by (ltb last_line line)
  where
    by : (b : Bool) → chain_number_of (cond b (Err GeneralError) (listed_hook chain index)) ≡ cond b (number_of general_error) (hook_listed_number chain index)
    by true = refl
    by false = number_is chain index

pub chain_values_lem : (chain : List Hook) (line index : ℕ) → chain_values_of (chain_listing chain line index) ≡ chain_values chain line index
chain_values_lem chain line index = by (ltb last_line line)
  where
    by : (b : Bool) → chain_values_of (cond b (Err GeneralError) (listed_hook chain index)) ≡ cond b (replicate hook_size 0) (hook_listed_values chain index)
    by true = refl
    by false = values_are chain index

pub lists : (chain : List Hook) (line index : ℕ) (r : ChainListing) → r ≡ chain_listing chain line index → ListsChain chain line index r
lists chain line index r e =
    record {
      answer = e;
      number = ap chain_number_of e ∙ chain_number_lem chain line index;
      values = ap chain_values_of e ∙ chain_values_lem chain line index;
    }

given_at : (before after : List Hook) (h : Hook) → listed_hook (before ++ h ∷ after) (length before) ≡ found_hook h
unfolding listed_hook
given_at [] after h = refl
given_at (g ∷ before) after h = given_at before after h

past_end : (chain : List Hook) (index : ℕ) → length chain ≤ index → listed_hook chain index ≡ Err DeviceNotFound
unfolding listed_hook
past_end [] index h = refl
past_end (g ∷ chain) zero h = absurd (omega arith)
past_end (g ∷ chain) (suc index) h = past_end chain index (omega arith)

end_past : (chain : List Hook) (index : ℕ) → listed_hook chain index ≡ Err DeviceNotFound → length chain ≤ index
unfolding listed_hook
end_past [] index e = omega arith
end_past (g ∷ chain) zero e = absurd (let z : ◌≡◌ {A = ℕ} 0 1 = cc in omega arith)
end_past (g ∷ chain) (suc index) e = omega (arith, end_past chain index e)

-- THEOREM: the listing gives the hook with so many before it, and -4 exactly past the end
pub chain_listed : ChainListed
chain_listed chain line h =
    let e : ltb last_line line ≡ false = le-ltb last_line line h in
    record {
      given = λ before after g s. rw (e, s) (given_at before after g);
      missing = λ index. rw e (end_past chain index, past_end chain index);
    }
