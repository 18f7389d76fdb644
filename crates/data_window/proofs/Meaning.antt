-- What is found, and when.
use Rattle.std.proofs.Common.{◌≡◌, ℕ, ◌-◌, ◌%◌, Bool, true, false, cond, eqb, ◌⊎◌, List, [], ◌∷◌, ◌++◌, sym, refl, ap, ◌∙◌, inl, inr, true≢false, lt-ltb, eq-eqb, ne_eqb, eqb-true, le-leb, Ok, Err}
use borrow.Author.Tests.{eqb-false}
use Rattle.numbers.specs.Numbers.{is_multiple}
use Rattle.numbers.proofs.Tests.{both_true}
use Rattle.window.specs.Window.{Window, end, In}
use Rattle.data_window.specs.declared.find.Found.{Found}
use Rattle.data_window.specs.declared.refusal.DataRefusal.TheVariants.{UnknownEdition, BadHandle, ShortCells, NotAligned, Nothing, Contested, WidthMissing, PastBuffer}
use Rattle.data_window.specs.Find.{Finding, found, holds, checked_window, in_list, find}
use Rattle.data_window.specs.Meaning.{HeldBy, NoneHolds, FirstHolder, Asked, Reached, Given, FindMeans}
use Rattle.data_window.proofs.Searches.{held}

module _ (space handle address : ℕ) where
  -- the test of a window and its words
  held_by : (v : Window) → holds space handle address v ≡ true → HeldBy space handle address v
  held_by v h =
      let t = held space handle address v h in
      record {
        in_space = eqb-true v.space space (both_true (eqb v.space space) _ h).0;
        own = t.own;
        six = t.six;
        from = t.from;
        to = t.to;
      }

  holds_true : (v : Window) → HeldBy space handle address v → holds space handle address v ≡ true
  holds_true v h =
      rw (eq-eqb v.space space h.in_space, eq-eqb v.handle handle h.own, lt-ltb v.base 6 h.six, le-leb v.start address h.from, lt-ltb address (end v) h.to)

  holds_false : (v : Window) → (HeldBy space handle address v → ⊥) → holds space handle address v ≡ false
  holds_false v n = by (holds space handle address v) refl
    where
      by : (b : Bool) → holds space handle address v ≡ b → b ≡ false
      by true e = absurd (n (held_by v e))
      by false e = refl

  not_held : (v : Window) → holds space handle address v ≡ false → HeldBy space handle address v → ⊥
  not_held v e h = true≢false (sym (holds_true v h) ∙ e)

  module _ (offered : ℕ → Bool) where
    -- the first window that holds the address decides
    first_decides : (v : Window) (before after : List Window) → NoneHolds space handle address before → HeldBy space handle address v
        → in_list offered space handle address (before ++ (v ∷ after)) ≡ checked_window offered address v
    unfolding in_list
    first_decides v [] after n h = rw (holds_true v h)
    first_decides v (u ∷ before) after n h =
        rw (holds_false u (n u (inl refl))) (first_decides v before after (λ x i. n x (inr i)) h)

    none_decides : (l : List Window) → NoneHolds space handle address l → in_list offered space handle address l ≡ Err Nothing
    unfolding in_list
    none_decides [] n = refl
    none_decides (u ∷ l) n = rw (holds_false u (n u (inl refl))) (none_decides l (λ x i. n x (inr i)))

  -- a list has a first window that holds the address, or none
  abbrev Sought : List Window → Type 0
  Sought l = NoneHolds space handle address l ⊎ ((v : Window) × FirstHolder space handle address l v)

  none_more : (u : Window) (l : List Window) → (HeldBy space handle address u → ⊥) → NoneHolds space handle address l → NoneHolds space handle address (u ∷ l)
  none_more u l n m v (inl e) h = n (rw e at h)
  none_more u l n m v (inr i) h = m v i h

  sought : (l : List Window) → Sought l
  sought [] = inl (λ v i h. i)
  sought (u ∷ l) = by (holds space handle address u) refl (sought l)
    where
      by : (b : Bool) → holds space handle address u ≡ b → Sought l → Sought (u ∷ l)
      by true e s = inr (u, record { before = []; after = l; listed = refl; none = λ v i h. i; holder = held_by u e })
      by false e (inl n) = inl (none_more u l (not_held u e) n)
      by false e (inr (v, f)) =
          inr (v, record { before = u ∷ f.before; after = f.after; listed = ap (λ (m : List Window). u ∷ m) f.listed; none = none_more u f.before (not_held u e) f.none; holder = f.holder })

module _ (good short : Bool) (offered : ℕ → Bool) (l : List Window) (space w handle address : ℕ) where
  abbrev Met : Finding → Type 0
  Met = Given good short offered l space w handle address

  first_found : (v : Window) → FirstHolder space handle address l v → in_list offered space handle address l ≡ checked_window offered address v
  first_found v f = rw f.listed (first_decides space handle address offered v f.before f.after f.none f.holder)

  -- what is found is found on its condition
  met_window : (v : Window) → Reached good short offered l space w handle address v → Met (checked_window offered address v)
  met_window v r = by v.contested (offered v.base) refl refl
    where
      by : (c t : Bool) → v.contested ≡ c → offered v.base ≡ t
          → Met (cond c (Err Contested) (cond t (found v.base (address - v.start) (end v - address)) (Err WidthMissing)))
      by true t c o = (v, r, c)
      by false true c o = (v, r, c, o, refl, refl, refl)
      by false false c o = (v, r, c, o)

  met_list : Asked good short w address → Met (in_list offered space handle address l)
  met_list a = by (sought space handle address l)
    where
      by : Sought space handle address l → Met (in_list offered space handle address l)
      by (inl n) = rw (none_decides space handle address offered l n) (a, n)
      by (inr (v, f)) = rw (first_found v f) (met_window v (record { asked = a; first = f }))

  met : Met (find good short offered l space w handle address)
  unfolding find
  met = by good short (is_multiple address w) refl refl refl
    where
      by : (g s a : Bool) → good ≡ g → short ≡ s → is_multiple address w ≡ a
          → Met (cond g (cond s (Err ShortCells) (cond a (in_list offered space handle address l) (Err NotAligned))) (Err BadHandle))
      by true false true g s a = met_list (record { good_handle = g; enough_cells = s; multiple = eqb-true (address % w) 0 a })
      by true false false g s a = (g, s, eqb-false (address % w) 0 a)
      by true true a g s m = (g, s)
      by false s a g t m = g

  -- and on its condition it is found
  asked_list : Asked good short w address → find good short offered l space w handle address ≡ in_list offered space handle address l
  unfolding find
  asked_list a = rw (a.good_handle, a.enough_cells, eq-eqb (address % w) 0 a.multiple)

  reached_window : (v : Window) → Reached good short offered l space w handle address v
      → find good short offered l space w handle address ≡ checked_window offered address v
  reached_window v r = asked_list r.asked ∙ first_found v r.first

  given_found : (f : Finding) → Met f → find good short offered l space w handle address ≡ f
  unfolding find
  given_found (Err UnknownEdition) m = absurd m
  given_found (Err BadHandle) g = rw g
  given_found (Err ShortCells) m = rw (m.0, m.1)
  given_found (Err NotAligned) m = rw (m.0, m.1, ne_eqb (address % w) 0 m.2)
  given_found (Err Nothing) m = asked_list m.0 ∙ none_decides space handle address offered l m.1
  given_found (Err Contested) m = reached_window m.0 m.1 ∙ rw m.2
  given_found (Err WidthMissing) m = reached_window m.0 m.1 ∙ rw (m.2, m.3)
  given_found (Err PastBuffer) m = absurd m
  given_found (Ok f) m =
      reached_window m.0 m.1 ∙ rw (m.2, m.3, m.4, m.5, m.6)

-- THEOREM: each finding is given exactly on its condition
pub find_means : FindMeans
find_means good short offered l space w handle address f =
    (λ e. rw e at (met good short offered l space w handle address), given_found good short offered l space w handle address f)

-- the checks know of no edition
pub never_unknown : (good short : Bool) (offered : ℕ → Bool) (l : List Window) (space w handle address : ℕ)
    → find good short offered l space w handle address ≡ Err UnknownEdition → ⊥
never_unknown good short offered l space w handle address e = (find_means good short offered l space w handle address (Err UnknownEdition)).0 e

-- what the laws above cite of a window that is found
pub record FoundFor (l : List Window) (space handle address : ℕ) (f : Found) : Type 0 where
  pub window : Window
  pub listed : In window l
  pub own : holds space handle address window ≡ true
  pub at_base : window.base ≡ f.base
  pub from_start : f.distance ≡ address - window.start

in_middle : (before after : List Window) (v : Window) → In v (before ++ (v ∷ after))
in_middle [] after v = inl refl
in_middle (u ∷ before) after v = inr (in_middle before after v)

first_in : (space handle address : ℕ) (l : List Window) (v : Window) → FirstHolder space handle address l v → In v l
first_in space handle address l v f = rw f.listed (in_middle f.before f.after v)

pub found_means : (good short : Bool) (offered : ℕ → Bool) (l : List Window) (space w handle address : ℕ) (f : Found)
    → find good short offered l space w handle address ≡ Ok f
    → ((good ≡ true) × (short ≡ false))
    × (((address % w ≡ 0) × (offered f.base ≡ true)) × FoundFor l space handle address f)
found_means good short offered l space w handle address f e =
    let m = (find_means good short offered l space w handle address (Ok f)).0 e in
    let v = m.0 in
    let a = m.1.asked in
    let first = m.1.first in (
      (a.good_handle, a.enough_cells),
      (
        (a.multiple, rw (← m.4) at m.3),
        record { window = v; listed = first_in space handle address l v first; own = holds_true space handle address v first.holder; at_base = sym m.4; from_start = m.5 },
      ),
    )
