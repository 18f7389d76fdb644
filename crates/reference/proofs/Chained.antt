-- For claim 2: what the chains have in every reference state of a run. Each hook stands on the line
-- that its function was loaded with, once.
use Prim.Native.Nat.{ℕ, zero, suc, ◌+◌, ◌-◌, ◌<◌, ◌≤◌}
use native.Mathlib.Omega.{arith}
use mathlib.Core.Bool.{true, false, cond, or-false, false≢true}
use mathlib.Core.List.{List, [], ◌∷◌, ◌++◌}
use mathlib.Core.Path.{◌≡◌, refl, sym, ◌∙◌, ap}
use lib.Dec.{eqb, leb}
use lib.ListN.{length}
use borrow.Author.Tests.{ne_eqb, eqb-true, leb-true, leb-false}
use Rattle.numbers.specs.Numbers.{byte_at}
use Rattle.interrupt_array.specs.Hooks.{hook, last_line}
use Rattle.interrupt_array.specs.declared.hooks.Hook.{Hook}
use Rattle.interrupt_hook.specs.Meaning.{EveryHook, is_among, without}
use Rattle.interrupt_hook.proofs.Packed.{every_map}
use Rattle.interrupt_hook.proofs.Room.{Once, Within, once_few}
use Rattle.reference.specs.Reference.{record_of}
use Rattle.reference.specs.Run.{line_by_line}
use Rattle.reference.proofs.Tests.{if_test, if_either}
use Rattle.reference.proofs.Among.{NoneOf, every_append, none_among, among_none, among_append, without_second, without_first, once_append}
use Rattle.reference.proofs.Lines.{every_lines, all_lines, lines_above, lines_at, lines_changed}

-- the line that a function was loaded with
abbrev pub loaded_line : List (List ℕ) → ℕ → ℕ
loaded_line rs handle = byte_at (record_of rs (handle - 1)) 0x3C

-- a hook on a line: of a function that there is, loaded with that line; none is above line 15
pub record On (rs : List (List ℕ)) (line : ℕ) (h : Hook) : Type 0 where
  pub low : 0 < h.handle
  pub high : h.handle ≤ length rs
  pub loaded : loaded_line rs h.handle ≡ line
  pub last : line ≤ last_line

-- every chain has hooks on its line, each function's at most once
pub record Chained (rs : List (List ℕ)) (chains : ℕ → List Hook) : Type 0 where
  pub each : (line : ℕ) → EveryHook (On rs line) (chains line)
  pub once : (line : ℕ) → Once (chains line)

pub no_chains : (rs : List (List ℕ)) → Chained rs (λ line. [])
no_chains rs = record { each = λ line. tt; once = λ line. tt }

-- a line on which there is a hook is at most 15
pub hooked_last : (rs : List (List ℕ)) (handle line : ℕ) (hs : List Hook) → EveryHook (On rs line) hs → is_among handle hs ≡ true → line ≤ last_line
unfolding is_among
hooked_last rs handle line [] o e = absurd (false≢true e)
hooked_last rs handle line (h ∷ hs) o e = o.0.last

module _ (rs : List (List ℕ)) (chains : ℕ → List Hook) (k : Chained rs chains) where
  -- a function's hook is on no line but its own
  pub elsewhere : (handle line : ℕ) → (line ≡ loaded_line rs handle → ⊥) → NoneOf handle (chains line)
  elsewhere handle line n =
      every_map (On rs line) (λ h. h.handle ≡ handle → ⊥) (λ h o z. n (sym o.loaded ∙ ap (loaded_line rs) z)) (chains line) (k.each line)

  pub none_below : (handle line : ℕ) → line ≤ loaded_line rs handle → is_among handle (line_by_line chains line) ≡ false
  none_below handle line h =
      none_among handle (line_by_line chains line) (every_lines _ chains line (λ l m. elsewhere handle l (λ z. omega arith)))

  none_above : (handle line : ℕ) → loaded_line rs handle ≤ line → is_among handle (lines_above chains line) ≡ false
  none_above handle line h =
      none_among handle (lines_above chains line)
      (every_lines _ (λ l. chains (suc line + l)) (last_line - line) (λ l m. elsewhere handle (suc line + l) (λ z. omega arith)))

  -- so that a function is hooked exactly if it is on its own
  pub among_lines : (handle : ℕ) → is_among handle (all_lines chains) ≡ is_among handle (chains (loaded_line rs handle))
  among_lines handle =
      let line = loaded_line rs handle in
      if_either (leb line last_line)
      (λ e.
      ap (is_among handle) (lines_at chains line (leb-true line last_line e))
      ∙ among_append handle (line_by_line chains line) (chains line ++ lines_above chains line)
      ∙ rw (none_below handle line (omega arith), among_append handle (chains line) (lines_above chains line), none_above handle line (omega arith))
      (or-false (is_among handle (chains line))))
      (λ e.
      let past : last_line < line = leb-false line last_line e in
      none_below handle (last_line + 1) (omega arith)
      ∙ sym (none_among handle (chains line)
      (every_map (On rs line) (λ h. h.handle ≡ handle → ⊥) (λ h o z. omega (arith, o.last)) (chains line) (k.each line))))

  pub once_lines : (n : ℕ) → Once (line_by_line chains n)
  unfolding line_by_line
  once_lines zero = tt
  once_lines (suc n) =
      once_append (line_by_line chains n) (chains n) (once_lines n) (k.once n)
      (every_lines (λ h. is_among h.handle (chains n) ≡ false) chains n
      (λ l m.
      every_map (On rs l) (λ h. is_among h.handle (chains n) ≡ false)
      (λ h o. none_among h.handle (chains n) (elsewhere h.handle n (λ z. omega (arith, o.loaded)))) (chains l) (k.each l)))

  pub within_lines : EveryHook (Within (length rs)) (all_lines chains)
  within_lines =
      every_lines (Within (length rs)) chains (last_line + 1)
      (λ l m. every_map (On rs l) (Within (length rs)) (λ h o. (o.low, o.high)) (chains l) (k.each l))

  -- there are no more hooks than functions
  pub few_hooks : length (all_lines chains) ≤ length rs
  few_hooks = once_few (length rs) (all_lines chains) (once_lines (last_line + 1)) within_lines

  -- a function's hook taken from all lines is taken from its own
  pub without_lines : (handle : ℕ)
      → (let line = loaded_line rs handle in
      is_among handle (chains line) ≡ true → without handle (all_lines chains) ≡ all_lines (λ l. cond (eqb l line) (without handle (chains line)) (chains l)))
  without_lines handle e =
      let line = loaded_line rs handle in
      let h = hooked_last rs handle line (chains line) (k.each line) e in
      ap (without handle) (lines_at chains line h)
      ∙ without_second handle (line_by_line chains line) (chains line ++ lines_above chains line) (none_below handle line (omega arith))
      ∙ ap (λ (l : List Hook). line_by_line chains line ++ l) (without_first handle (chains line) (lines_above chains line) e)
      ∙ sym (lines_changed chains line (without handle (chains line)) h)

  -- another chain on a line
  pub chained_changed : (line : ℕ) (new : List Hook) → EveryHook (On rs line) new → Once new → Chained rs (λ l. cond (eqb l line) new (chains l))
  chained_changed line new each once =
      record {
        each = λ l. if_test (EveryHook (On rs l)) (eqb l line) (λ e. rw (eqb-true l line e) each) (λ e. k.each l);
        once = λ l. if_test Once (eqb l line) (λ e. once) (λ e. k.once l);
      }

  -- with a hook put last
  pub chained_hook : (handle handler parameter : ℕ) → 0 < handle → handle ≤ length rs
      → (let line = loaded_line rs handle in
      line ≤ last_line → is_among handle (chains line) ≡ false
      → Chained rs (λ l. cond (eqb l line) (chains line ++ hook handle handler parameter ∷ []) (chains l)))
  unfolding is_among
  chained_hook handle handler parameter low high last e =
      let line = loaded_line rs handle in
      let new = hook handle handler parameter in
      chained_changed line (chains line ++ new ∷ [])
      (every_append (On rs line) (chains line) (new ∷ []) (k.each line) (record { low = low; high = high; loaded = refl; last = last }, tt))
      (once_append (chains line) (new ∷ []) (k.once line) (refl, tt)
      (every_map (λ h. h.handle ≡ handle → ⊥) (λ h. is_among h.handle (new ∷ []) ≡ false) (λ h n. rw (ne_eqb handle h.handle (λ z. n (sym z))))
      (chains line) (among_none handle (chains line) e)))
