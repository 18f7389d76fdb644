-- For claim 2: laws of lists of hooks, one after the other. Which handles are among them, what is
-- left without one, and what each of them has.
use Prim.Native.Nat.{ℕ, ◌≤◌}
use native.Mathlib.Omega.{arith}
use mathlib.Core.Bool.{Bool, true, false, cond, ◌||◌, or_assoc, false≢true}
use mathlib.Core.List.{List, [], ◌∷◌, ◌++◌}
use mathlib.Core.Path.{◌≡◌, refl, sym, ◌∙◌, ap}
use lib.Dec.{eqb}
use lib.ListN.{length}
use borrow.Author.Tests.{ne_eqb, eqb-true, eqb-false}
use Rattle.board.specs.Layout.{functions_max}
use Rattle.numbers.proofs.Tests.{either_false}
use Rattle.interrupt_array.specs.Hooks.{chosen, packed}
use Rattle.interrupt_array.specs.declared.hooks.Hook.{Hook}
use Rattle.interrupt_hook.specs.Chain.{unhooked}
use Rattle.interrupt_hook.specs.Meaning.{EveryHook, is_among, without}
use Rattle.interrupt_hook.proofs.Packed.{every_map}
use Rattle.interrupt_hook.proofs.Repacked.{packed_unhook}
use Rattle.interrupt_hook.proofs.Room.{Once}

pub every_append : (P : Hook → Type 0) (a b : List Hook) → EveryHook P a → EveryHook P b → EveryHook P (a ++ b)
every_append P [] b x y = y
every_append P (h ∷ a) b x y = (x.0, every_append P a b x.1 y)

-- no hook of a handle
abbrev pub NoneOf : ℕ → List Hook → Type 0
NoneOf handle hs = EveryHook (λ h. h.handle ≡ handle → ⊥) hs

pub none_among : (handle : ℕ) (hs : List Hook) → NoneOf handle hs → is_among handle hs ≡ false
unfolding is_among
none_among handle [] n = refl
none_among handle (h ∷ hs) n = rw (ne_eqb h.handle handle n.0) (none_among handle hs n.1)

pub among_none : (handle : ℕ) (hs : List Hook) → is_among handle hs ≡ false → NoneOf handle hs
unfolding is_among
among_none handle [] e = tt
among_none handle (h ∷ hs) e =
    let s = either_false (eqb h.handle handle) _ e in
    (eqb-false h.handle handle s.0, among_none handle hs s.1)

pub among_append : (handle : ℕ) (a b : List Hook) → is_among handle (a ++ b) ≡ (is_among handle a || is_among handle b)
unfolding is_among
among_append handle [] b = refl
among_append handle (h ∷ a) b =
    rw (among_append handle a b) (sym (or_assoc (eqb h.handle handle) (is_among handle a) (is_among handle b)))

-- a handle that is not in the first of two lists is taken from the second, one that is in the first from there
pub without_second : (handle : ℕ) (a b : List Hook) → is_among handle a ≡ false → without handle (a ++ b) ≡ a ++ without handle b
unfolding is_among without
without_second handle [] b e = refl
without_second handle (h ∷ a) b e =
    let s = either_false (eqb h.handle handle) _ e in
    rw s.0 (ap (λ (l : List Hook). h ∷ l) (without_second handle a b s.1))

pub without_first : (handle : ℕ) (a b : List Hook) → is_among handle a ≡ true → without handle (a ++ b) ≡ without handle a ++ b
unfolding is_among without
without_first handle [] b e = absurd (false≢true e)
without_first handle (h ∷ a) b e = by (eqb h.handle handle) e (without_first handle a b)
  where
    by : (t : Bool) → (t || is_among handle a) ≡ true → (is_among handle a ≡ true → without handle (a ++ b) ≡ without handle a ++ b)
        → cond t (a ++ b) (h ∷ without handle (a ++ b)) ≡ cond t a (h ∷ without handle a) ++ b
    by true e more = refl
    by false e more = ap (λ (l : List Hook). h ∷ l) (more e)

pub every_without : (P : Hook → Type 0) (handle : ℕ) (hs : List Hook) → EveryHook P hs → EveryHook P (without handle hs)
unfolding without
every_without P handle [] e = tt
every_without P handle (h ∷ hs) e = by (eqb h.handle handle) (every_without P handle hs e.1)
  where
    by : (t : Bool) → EveryHook P (without handle hs) → EveryHook P (cond t hs (h ∷ without handle hs))
    by true r = e.1
    by false r = (e.0, r)

-- a list at the first hook of a handle
record Taken (handle : ℕ) (hs : List Hook) : Type 0 where
  before : List Hook
  entry : Hook
  after : List Hook
  own : entry.handle ≡ handle
  none : NoneOf handle before
  whole : hs ≡ before ++ entry ∷ after
  left : without handle hs ≡ before ++ after

taken : (handle : ℕ) (hs : List Hook) → is_among handle hs ≡ true → Taken handle hs
unfolding is_among without
taken handle [] e = absurd (false≢true e)
taken handle (h ∷ hs) e = by (eqb h.handle handle) refl e (taken handle hs)
  where
    by : (t : Bool) → eqb h.handle handle ≡ t → (t || is_among handle hs) ≡ true → (is_among handle hs ≡ true → Taken handle hs) → Taken handle (h ∷ hs)
    by true q e more =
        record { before = []; entry = h; after = hs; own = eqb-true h.handle handle q; none = tt; whole = refl; left = rw q }
    by false q e more =
        let r = more e in
        record {
          before = h ∷ r.before;
          entry = r.entry;
          after = r.after;
          own = r.own;
          none = (eqb-false h.handle handle q, r.none);
          whole = ap (λ (l : List Hook). h ∷ l) r.whole;
          left = rw q (ap (λ (l : List Hook). h ∷ l) r.left);
        }

-- a packed array without the hook of a handle is packed
pub packed_without : (handle : ℕ) (hs : List Hook) → length hs ≤ functions_max → is_among handle hs ≡ true
    → unhooked (packed hs) handle ≡ packed (without handle hs)
packed_without handle hs room e =
    let t = taken handle hs e in
    ap (λ (l : List Hook). unhooked (packed l) handle) t.whole
    ∙ ap (unhooked (packed (t.before ++ t.entry ∷ t.after))) (sym t.own)
    ∙ packed_unhook t.before t.after t.entry (omega (arith, ap (λ (l : List Hook). length l) t.whole))
    (every_map (λ g. g.handle ≡ handle → ⊥) (λ g. g.handle ≡ t.entry.handle → ⊥) (λ g n z. n (z ∙ t.own)) t.before t.none)
    ∙ ap packed (sym t.left)

pub once_append : (a b : List Hook) → Once a → Once b → EveryHook (λ h. is_among h.handle b ≡ false) a → Once (a ++ b)
once_append [] b x y n = y
once_append (h ∷ a) b x y n = (among_append h.handle a b ∙ rw (x.0, n.0), once_append a b x.1 y n.1)

-- all or none are chosen
pub chosen_every : (t : Hook → Bool) (hs : List Hook) → EveryHook (λ h. t h ≡ true) hs → chosen t hs ≡ hs
unfolding chosen
chosen_every t [] e = refl
chosen_every t (h ∷ hs) e = rw e.0 (ap (λ (l : List Hook). h ∷ l) (chosen_every t hs e.1))

pub chosen_nothing : (t : Hook → Bool) (hs : List Hook) → EveryHook (λ h. t h ≡ false) hs → chosen t hs ≡ []
unfolding chosen
chosen_nothing t [] e = refl
chosen_nothing t (h ∷ hs) e = rw e.0 (chosen_nothing t hs e.1)
