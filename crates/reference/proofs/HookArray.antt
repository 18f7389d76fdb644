-- For claim 2: the array of hooks holds the chains one after the other. Whether a function is
-- hooked in it, whether it has room, the chain of a line, and the array after a hook.
use Prim.Native.Nat.{ℕ, suc, ◌+◌, ◌-◌, ◌<◌, ◌≤◌}
use native.Mathlib.Omega.{arith}
use mathlib.Core.Bool.{Bool, true, false, cond, not, ◌&&◌}
use mathlib.Core.List.{List, [], ◌∷◌, ◌++◌, append-nil, append_assoc}
use mathlib.Core.Path.{◌≡◌, sym, ◌∙◌, ap}
use lib.Dec.{eqb}
use lib.ListN.{length}
use borrow.Author.Tests.{eq-eqb, ne_eqb}
use Rattle.board.specs.Layout.{functions_max}
use Rattle.interrupt_array.specs.Hooks.{hook, hook_at, line_of, last_line, chosen, chain_of, packed}
use Rattle.interrupt_array.specs.declared.hooks.Hook.{Hook}
use Rattle.interrupt_hook.specs.Chain.{is_hooked, is_free, hooked}
use Rattle.interrupt_hook.specs.Meaning.{EveryHook, is_among}
use Rattle.interrupt_hook.proofs.Entries.{chosen_append}
use Rattle.interrupt_hook.proofs.Packed.{every_map, packed_chain, packed_hooked, packed_free}
use Rattle.interrupt_hook.proofs.Repacked.{UpTo, Above, packed_hook}
use Rattle.interrupt_hook.proofs.Room.{free_room}
use Rattle.load.specs.Load.{padded}
use Rattle.reference.specs.Reference.{Reference, joined}
use Rattle.reference.specs.Run.{line_by_line}
use Rattle.reference.proofs.Tests.{if_either}
use Rattle.reference.proofs.Registers.{kept_byte}
use Rattle.reference.proofs.Among.{chosen_every, chosen_nothing}
use Rattle.reference.proofs.Lines.{every_lines, all_lines, lines_above, lines_at, lines_changed}
use Rattle.reference.proofs.Chained.{loaded_line, On, among_lines, once_lines, within_lines, few_hooks}
use Rattle.reference.proofs.Sound.{Sound}

-- the lent records
abbrev pub lent_records : Reference → List ℕ
lent_records b = padded (joined b.records)

module _ (b : Reference) (s : Sound b) where
  abbrev rs : List (List ℕ)
  rs = b.records

  abbrev records : List ℕ
  records = lent_records b

  abbrev chains : ℕ → List Hook
  chains = b.chains

  pub line_kept : (handle : ℕ) → line_of records handle ≡ loaded_line rs handle
  line_kept handle = kept_byte rs s.kept.sized (handle - 1) 0x3C (omega arith)

  -- what every hook on a line has, the hooks of some lines have
  of_each : (P : Hook → Type 0) (line : ℕ) → ((h : Hook) → On rs line h → P h) → EveryHook P (chains line)
  of_each P line f = every_map (On rs line) P f (chains line) (s.chained.each line)

  below_all : (P : Hook → Type 0) (n : ℕ) → ((l : ℕ) → l < n → (h : Hook) → On rs l h → P h) → EveryHook P (line_by_line chains n)
  below_all P n f = every_lines P chains n (λ l m. of_each P l (f l m))

  above_all : (P : Hook → Type 0) (line : ℕ) → ((l : ℕ) → line < l → (h : Hook) → On rs l h → P h) → EveryHook P (lines_above chains line)
  above_all P line f =
      every_lines P (λ l. chains (suc line + l)) (last_line - line) (λ l m. of_each P (suc line + l) (f (suc line + l) (omega arith)))

  -- the hooks are no more than the array holds
  pub few : length (all_lines chains) ≤ functions_max
  few = omega (arith, s.kept.few, few_hooks rs chains s.chained)

  pub hooked_same : (handle : ℕ) → 0 < handle → is_hooked (packed (all_lines chains)) handle ≡ is_among handle (chains (loaded_line rs handle))
  hooked_same handle low = packed_hooked (all_lines chains) handle few (λ z. omega arith) ∙ among_lines rs chains s.chained handle

  -- where a function is not hooked there is room
  pub room : (handle : ℕ) → 0 < handle → handle ≤ length rs → is_among handle (chains (loaded_line rs handle)) ≡ false → length (all_lines chains) < functions_max
  room handle low high e =
      omega (arith, s.kept.few, free_room (length rs) (all_lines chains) handle (once_lines rs chains s.chained (last_line + 1)) (within_lines rs chains s.chained) low high (among_lines rs chains s.chained handle ∙ e))

  pub free_same : (handle : ℕ) → 0 < handle → handle ≤ length rs
      → is_free (packed (all_lines chains)) handle ≡ not (is_among handle (chains (loaded_line rs handle)))
  free_same handle low high =
      if_either (is_among handle (chains (loaded_line rs handle)))
      (λ e.
      ap (λ (t : Bool). not t && eqb (hook_at (packed (all_lines chains)) 15).handle 0) (hooked_same handle low ∙ e) ∙ sym (ap not e))
      (λ e. packed_free (all_lines chains) handle (room handle low high e) (λ z. omega arith) ∙ ap not (among_lines rs chains s.chained handle))

  -- the array with a hook put last on its line
  pub hook_lines : (handle handler parameter : ℕ)
      → (let line = loaded_line rs handle in
      let new = hook handle handler parameter in
      line ≤ last_line → length (all_lines chains) < functions_max
      → hooked records (packed (all_lines chains)) new ≡ packed (all_lines (λ l. cond (eqb l line) (chains line ++ new ∷ []) (chains l))))
  unfolding line_by_line
  hook_lines handle handler parameter last space =
      let line = loaded_line rs handle in
      let new = hook handle handler parameter in
      let low = line_by_line chains line ++ chains line in
      let high = lines_above chains line in
      let split : all_lines chains ≡ low ++ high = lines_at chains line last ∙ sym (append_assoc (line_by_line chains line) (chains line) high) in
      let up : EveryHook (UpTo records line) low =
      below_all (UpTo records line) (suc line) (λ l m h o. ((λ z. omega (arith, o.low)), omega (arith, line_kept h.handle, o.loaded))) in
      let over : EveryHook (Above records line) high = above_all (Above records line) line (λ l m h o. omega (arith, line_kept h.handle, o.loaded)) in
      let joins : low ++ new ∷ high ≡ line_by_line chains line ++ ((chains line ++ new ∷ []) ++ high) = simp append_assoc in
      ap (λ (l : List Hook). hooked records (packed l) new) split
      ∙ packed_hook records low high new (omega (arith, ap (λ (l : List Hook). length l) split)) (rw (line_kept handle) up) (rw (line_kept handle) over)
      ∙ ap packed (joins ∙ sym (lines_changed chains line (chains line ++ new ∷ []) last))

  -- the chain of a line in the array is the line's
  pub chain_same : (line : ℕ) → line ≤ last_line → chain_of records (packed (all_lines chains)) line ≡ chains line
  chain_same line h =
      let t : Hook → Bool = λ g. eqb (line_of records g.handle) line in
      let other : (l : ℕ) → (l ≡ line → ⊥) → (g : Hook) → On rs l g → t g ≡ false =
      λ l n g o. ne_eqb _ line (λ z. n (sym o.loaded ∙ sym (line_kept g.handle) ∙ z)) in
      packed_chain records line (all_lines chains) few (below_all (λ g. g.handle ≡ 0 → ⊥) (last_line + 1) (λ l m g o z. omega (arith, o.low)))
      ∙ ap (chosen t) (lines_at chains line h)
      ∙ chosen_append t (line_by_line chains line) (chains line ++ lines_above chains line)
      ∙ rw (
        chosen_nothing t (line_by_line chains line) (below_all (λ g. t g ≡ false) line (λ l m. other l (λ z. omega arith))),
        chosen_append t (chains line) (lines_above chains line),
        chosen_every t (chains line) (of_each (λ g. t g ≡ true) line (λ g o. eq-eqb _ line (line_kept g.handle ∙ o.loaded))),
        chosen_nothing t (lines_above chains line) (above_all (λ g. t g ≡ false) line (λ l m. other l (λ z. omega arith))),
      )
      (append-nil (chains line))
