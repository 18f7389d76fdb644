-- For claim 2: chains taken line by line, and where a line stands among them.
use Prim.Native.Nat.{ℕ, zero, suc, ◌+◌, ◌-◌, ◌<◌, ◌≤◌}
use native.Mathlib.Omega.{arith}
use native.Mathlib.Nat.{add-zero}
use mathlib.Core.Bool.{cond}
use mathlib.Core.List.{List, ◌++◌, append-nil, append_assoc}
use mathlib.Core.Path.{◌≡◌, refl, sym, ◌∙◌, ap}
use lib.Dec.{eqb}
use borrow.Author.Tests.{eq-eqb, ne_eqb}
use Rattle.interrupt_array.specs.Hooks.{last_line}
use Rattle.interrupt_array.specs.declared.hooks.Hook.{Hook}
use Rattle.interrupt_hook.specs.Meaning.{EveryHook}
use Rattle.reference.specs.Run.{line_by_line}
use Rattle.reference.proofs.Among.{every_append}

pub every_lines : (P : Hook → Type 0) (chains : ℕ → List Hook) (n : ℕ) → ((l : ℕ) → l < n → EveryHook P (chains l)) → EveryHook P (line_by_line chains n)
unfolding line_by_line
every_lines P chains zero e = tt
every_lines P chains (suc n) e =
    every_append P (line_by_line chains n) (chains n) (every_lines P chains n (λ l h. e l (omega arith))) (e n (omega arith))

lines_same : (f g : ℕ → List Hook) (n : ℕ) → ((l : ℕ) → l < n → f l ≡ g l) → line_by_line f n ≡ line_by_line g n
unfolding line_by_line
lines_same f g zero e = refl
lines_same f g (suc n) e = rw (lines_same f g n (λ l h. e l (omega arith)), e n (omega arith))

lines_split : (chains : ℕ → List Hook) (i m : ℕ) → line_by_line chains (i + m) ≡ line_by_line chains i ++ line_by_line (λ l. chains (i + l)) m
unfolding line_by_line
lines_split chains i zero = rw (add-zero i) (sym (append-nil (line_by_line chains i)))
lines_split chains i (suc m) =
    let e : i + suc m ≡ suc (i + m) = omega arith in
    rw e
    (ap (λ (l : List Hook). l ++ chains (i + m)) (lines_split chains i m)
    ∙ append_assoc (line_by_line chains i) (line_by_line (λ l. chains (i + l)) m) (chains (i + m)))

-- the hooks of all lines, and of the lines above one
abbrev pub all_lines : (ℕ → List Hook) → List Hook
all_lines chains = line_by_line chains (last_line + 1)

abbrev pub lines_above : (ℕ → List Hook) → ℕ → List Hook
lines_above chains line = line_by_line (λ l. chains (suc line + l)) (last_line - line)

-- a line stands between those below and those above it
pub lines_at : (chains : ℕ → List Hook) (line : ℕ) → line ≤ last_line
    → all_lines chains ≡ line_by_line chains line ++ (chains line ++ lines_above chains line)
unfolding line_by_line
lines_at chains line h =
    let e : 16 ≡ suc line + (15 - line) = omega arith in
    ap (line_by_line chains) e ∙ lines_split chains (suc line) (last_line - line)
    ∙ append_assoc (line_by_line chains line) (chains line) (lines_above chains line)

-- and so does another chain in its place
pub lines_changed : (chains : ℕ → List Hook) (line : ℕ) (new : List Hook) → line ≤ last_line
    → all_lines (λ l. cond (eqb l line) new (chains l)) ≡ line_by_line chains line ++ (new ++ lines_above chains line)
lines_changed chains line new h =
    let f : ℕ → List Hook = λ l. cond (eqb l line) new (chains l) in
    let below : line_by_line f line ≡ line_by_line chains line = lines_same f chains line (λ l k. rw (ne_eqb l line (λ z. omega arith))) in
    let here : f line ≡ new = rw (eq-eqb line line refl) in
    let above : lines_above f line ≡ lines_above chains line =
    lines_same (λ l. f (suc line + l)) (λ l. chains (suc line + l)) (last_line - line) (λ l k. rw (ne_eqb (suc line + l) line (λ z. omega arith))) in
    lines_at f line h ∙ ap (λ (l : List Hook). l ++ (f line ++ lines_above f line)) below
    ∙ ap (λ (l : List Hook). line_by_line chains line ++ (l ++ lines_above f line)) here
    ∙ ap (λ (l : List Hook). line_by_line chains line ++ (new ++ l)) above
