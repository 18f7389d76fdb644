-- A packed array after a hook, and after an unhook, is packed.
use Prim.Native.Nat.{ℕ, suc, ◌+◌, ◌-◌, ◌<◌, ◌≤◌}
use native.Mathlib.Omega.{arith}
use mathlib.Core.Bool.{Bool, true, false, and-false}
use mathlib.Core.List.{List, ◌∷◌, ◌++◌}
use mathlib.Core.Path.{◌≡◌, refl, sym, ◌∙◌, ap}
use lib.Dec.{eqb, ltb}
use lib.ListN.{length, get_or, length-append, get_or-append}
use lib.Seq.{get_or-append-add, get_or-append_seam}
use borrow.Author.Tests.{eq-eqb, ne_eqb, le-leb, lt-leb, ltb-true, ltb-false, eqb-true, eqb-false}
use Rattle.board.specs.Layout.{functions_max}
use Rattle.interrupt_array.specs.declared.hooks.Hook.{Hook}
use Rattle.interrupt_array.specs.Hooks.{no_hook, is_hook, hook_at, line_of, packed}
use Rattle.interrupt_edit.specs.Changes.{after_hook, after_unhook}
use Rattle.interrupt_hook.specs.Chain.{up_to_line, position_for, position_of, hooked, unhooked}
use Rattle.interrupt_hook.specs.Meaning.{EveryHook}
use Rattle.interrupt_hook.proofs.Positions.{past_is, first_is}
use Rattle.interrupt_hook.proofs.Moves.{hook_before, hook_here, hook_after, unhook_before, unhook_after}
use Rattle.interrupt_hook.proofs.Packed.{packed_at, array_packed, every_map, every_at, every_or_none, in_first_lem, in_second}

-- hooks on lines up to a line, and hooks on lines above it
abbrev pub UpTo : List ℕ → ℕ → Hook → Type 0
UpTo records line h = (h.handle ≡ 0 → ⊥) × (line_of records h.handle ≤ line)

abbrev pub Above : List ℕ → ℕ → Hook → Type 0
Above records line h = line < line_of records h.handle

up_to : (records : List ℕ) (line : ℕ) (h : Hook) → UpTo records line h → up_to_line records line h ≡ true
up_to records line h p = rw (ne_eqb h.handle 0 p.0) (le-leb (line_of records h.handle) line p.1)

above : (records : List ℕ) (line : ℕ) (h : Hook) → Above records line h → up_to_line records line h ≡ false
above records line h p = rw (lt-leb (line_of records h.handle) line p) (and-false (is_hook h))

-- the position of a line is after the hooks on lines up to it
pub packed_position : (records : List ℕ) (line : ℕ) (low high : List Hook) → length (low ++ high) ≤ functions_max
    → EveryHook (UpTo records line) low → EveryHook (Above records line) high → position_for records (packed (low ++ high)) line ≡ length low
packed_position records line low high room l h =
    past_is (λ e. up_to_line records line (hook_at (packed (low ++ high)) e)) functions_max (length low)
    (record {
      room = omega (arith, length-append low high);
      here = λ z. ap (up_to_line records line) (in_first_lem low high (length low - 1) (omega arith)) ∙ up_to records line (get_or low (length low - 1) no_hook) (every_at (UpTo records line) low (length low - 1) l (omega arith));
      after = λ j a b. ap (up_to_line records line) (in_second low high j a)
          ∙ every_or_none (λ g. up_to_line records line g ≡ false) high (j - length low) (every_map (Above records line) (λ g. up_to_line records line g ≡ false) (above records line) high h) refl;
    })

-- entries after one comes in between two lists
came_in : (low high : List Hook) (new : Hook) (e : ℕ) → after_hook (hook_at (packed (low ++ high))) (length low) new e ≡ get_or (low ++ new ∷ high) e no_hook
came_in low high new e = by (ltb e (length low)) (eqb e (length low)) refl refl
  where
    by : (b c : Bool) → ltb e (length low) ≡ b → eqb e (length low) ≡ c → after_hook (hook_at (packed (low ++ high))) (length low) new e ≡ get_or (low ++ new ∷ high) e no_hook
    by true c p q =
        let l = ltb-true e (length low) p in
        hook_before (hook_at (packed (low ++ high))) (length low) new e l ∙ in_first_lem low high e l ∙ sym (get_or-append low (new ∷ high) no_hook e l)
    by false true p q =
        let z : e ≡ length low = eqb-true e (length low) q in
        rw z (hook_here (hook_at (packed (low ++ high))) (length low) new ∙ sym (get_or-append_seam low new high no_hook))
    by false false p q =
        let n : e ≡ length low → ⊥ = eqb-false e (length low) q in
        let l : length low < e = omega (arith, ltb-false e (length low) p) in
        let k : e ≡ length low + suc (e - 1 - length low) = omega arith in
        hook_after (hook_at (packed (low ++ high))) (length low) new e l
        ∙ in_second low high (e - 1) (omega arith)
        ∙ sym (ap (λ j. get_or (low ++ new ∷ high) j no_hook) k ∙ get_or-append-add low (new ∷ high) (suc (e - 1 - length low)) no_hook)

-- a new hook goes between the hooks on lines up to its own and those on lines above
pub packed_hook : (records : List ℕ) (low high : List Hook) (new : Hook) → length (low ++ high) < functions_max
    → EveryHook (UpTo records (line_of records new.handle)) low → EveryHook (Above records (line_of records new.handle)) high
    → hooked records (packed (low ++ high)) new ≡ packed (low ++ new ∷ high)
packed_hook records low high new room l h =
    rw (packed_position records (line_of records new.handle) low high (omega arith) l h)
    (array_packed _ (low ++ new ∷ high) (omega (arith, length-append low high, length-append low (new ∷ high))) (λ e k. came_in low high new e))

-- entries after the one between two lists goes out
went_out : (low high : List Hook) (h : Hook) (e : ℕ) → after_unhook (hook_at (packed (low ++ h ∷ high))) (length low) e ≡ get_or (low ++ high) e no_hook
went_out low high h e = by (ltb e (length low)) refl
  where
    by : (b : Bool) → ltb e (length low) ≡ b → after_unhook (hook_at (packed (low ++ h ∷ high))) (length low) e ≡ get_or (low ++ high) e no_hook
    by true p =
        let l = ltb-true e (length low) p in
        unhook_before (hook_at (packed (low ++ h ∷ high))) (length low) e l ∙ in_first_lem low (h ∷ high) e l ∙ sym (get_or-append low high no_hook e l)
    by false p =
        let l : length low ≤ e = ltb-false e (length low) p in
        let k : e ≡ length low + (e - length low) = omega arith in
        let s : e + 1 - length low ≡ suc (e - length low) = omega arith in
        unhook_after (hook_at (packed (low ++ h ∷ high))) (length low) e l
        ∙ in_second low (h ∷ high) (e + 1) (omega arith)
        ∙ rw s (sym (ap (λ j. get_or (low ++ high) j no_hook) k ∙ get_or-append-add low high (e - length low) no_hook))

pub packed_entry : (low high : List Hook) (h : Hook) → length (low ++ h ∷ high) ≤ functions_max → EveryHook (λ g. g.handle ≡ h.handle → ⊥) low
    → position_of (packed (low ++ h ∷ high)) h.handle ≡ length low
packed_entry low high h room other =
    first_is (λ e. eqb (hook_at (packed (low ++ h ∷ high)) e).handle h.handle) 0 functions_max (length low)
    (record {
      low = omega arith;
      high = omega (arith, length-append low (h ∷ high));
      here = λ l. eq-eqb _ h.handle (ap (λ (g : Hook). g.handle) at_seam);
      before = λ j a b. ne_eqb _ h.handle (λ z. every_at (λ g. g.handle ≡ h.handle → ⊥) low j other b (sym (ap (λ (g : Hook). g.handle) (in_first_lem low (h ∷ high) j b)) ∙ z));
    })
  where
    at_seam : hook_at (packed (low ++ h ∷ high)) (length low) ≡ h
    at_seam = packed_at (low ++ h ∷ high) (length low) ∙ get_or-append_seam low h high no_hook

-- the first hook of a handle goes, the others close up
pub packed_unhook : (low high : List Hook) (h : Hook) → length (low ++ h ∷ high) ≤ functions_max → EveryHook (λ g. g.handle ≡ h.handle → ⊥) low
    → unhooked (packed (low ++ h ∷ high)) h.handle ≡ packed (low ++ high)
packed_unhook low high h room other =
    rw (packed_entry low high h room other)
    (array_packed _ (low ++ high) (omega (arith, length-append low high, length-append low (h ∷ high))) (λ e k. went_out low high h e))
