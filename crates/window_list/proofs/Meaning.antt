-- The window list means what specs/Meaning.antt says, and depends on nothing else.
use Prim.Native.Nat.{ℕ, ◌+◌, ◌*◌, ◌/◌, ◌%◌, ◌<◌, max}
use native.Mathlib.Nat.{le-max_left, le-max_right}
use native.Mathlib.Omega.{arith}
use lib.Pow.{pow_pos}
use lib.Dec.{ltb, eqb}
use borrow.Author.Tests.{lt-ltb, ltb-true, eq-eqb, eqb-true, not-true}
use mathlib.Core.Bool.{Bool, true, false, cond, false≢true}
use mathlib.Core.Logic.{◌↔◌, inl, inr, ⊎_elim}
use mathlib.Core.Path.{◌≡◌, refl, ap, sym, ◌∙◌}
use mathlib.Core.List.{List, [], ◌∷◌, map}
use Rattle.board.specs.Handles.{function_count}
use Rattle.board.specs.Layout.{exponent, register_byte, base_register}
use Rattle.numbers.proofs.Numbers.{little_same}
use Rattle.numbers.proofs.Tests.{both_true}
use Rattle.window.specs.Window.{Window, end}
use Rattle.window_list.specs.Windows.{window_at, open_windows, sorted, another, contends, any, with_mark, list_of}
use Rattle.window.specs.Window.{In}
use Rattle.window_list.specs.Meaning.{EveryWindow, how_many, same_register, OpenAt, Contests, Contested, Means, ListMeans, LentListMeans, Watched, ListSame, ListDependsOn}
use Rattle.window_list.proofs.Lists.{in_every, any_sorted, many_sorted, in_sorted, in_map, map_same, any_in, gather_same}
use Rattle.window_list.proofs.Order.{Apart, differ, another_by, another_sym, ascending_sorted, ascending_map}
use Rattle.window_list.proofs.Open.{slot, in_open, open_in, apart_slots}

-- two windows of some length share an address exactly if each starts before the other ends
contests_is : (w v : Window) → 0 < w.length → 0 < v.length → contends w v ≡ true ↔ Contests w v
contests_is w v lw lv = (
  λ e.
      let a = both_true (another v w) _ e in
      let b = both_true (eqb v.space w.space) _ a.1 in
      let c = both_true (ltb v.start (end w)) _ b.1 in
      let f = ltb-true v.start (end w) c.0 in
      let g = ltb-true w.start (end v) c.1 in
      record {
        other = differ v w a.0;
        space = eqb-true v.space w.space b.0;
        address = max v.start w.start;
        from_v = le-max_left v.start w.start;
        to_v = omega arith;
        from_w = le-max_right v.start w.start;
        to_w = omega arith;
      },
  λ c.
      rw (
        another_by v w c.other,
        eq-eqb v.space w.space c.space,
        lt-ltb v.start (end w) (omega (arith, c.from_v, c.to_w)),
        lt-ltb w.start (end v) (omega (arith, c.from_w, c.to_v)),
      ),
)

-- marks play no part in it
remarked : (m n m' n' : Bool) (w v : Window) → Contests (with_mark m w) (with_mark n v) → Contests (with_mark m' w) (with_mark n' v)
remarked m n m' n' w v c =
    record { other = c.other; space = c.space; address = c.address; from_v = c.from_v; to_v = c.to_v; from_w = c.from_w; to_w = c.to_w }

none_of : (v : Window) (l : List Window) → EveryWindow (λ w. another w v ≡ true) l → how_many (same_register v) l ≡ 0
none_of v [] a = refl
none_of v (w ∷ l) a = rw (not-true (same_register v w) a.0, none_of v l a.1)

same_self : (w : Window) → same_register w w ≡ true
same_self w = rw (eq-eqb w.handle w.handle refl, eq-eqb w.base w.base refl)

one_of : (v : Window) (l : List Window) → In v l → Apart l → how_many (same_register v) l ≡ 1
one_of v [] i a = absurd i
one_of v (w ∷ l) i a =
    ⊎_elim
    (λ e.
    let h : same_register v w ≡ true = ap (λ (x : Window). same_register x w) e ∙ same_self w in
    let c : how_many (same_register v) l ≡ 0 = ap (λ (x : Window). how_many (same_register x) l) e ∙ none_of w l a.0 in
    rw (h, c))
    (λ j.
    let d : another v w ≡ true = in_every (λ x. another x w ≡ true) l v a.0 j in
    let h : same_register v w ≡ false = not-true _ (another_sym v w d) in
    rw (h, one_of v l j a.1))
    i

many_map : (v : Window) (f : Window → Bool) (l : List Window) → how_many (same_register v) (map (λ w. with_mark (f w) w) l) ≡ how_many (same_register v) l
many_map v f [] = refl
many_map v f (w ∷ l) = ap (λ (x : ℕ). cond (same_register v w) 1 0 + x) (many_map v f l)

bool_same : (p q : Bool) → (p ≡ true → q ≡ true) → (q ≡ true → p ≡ true) → p ≡ q
bool_same true q f g = sym (f refl)
bool_same false true f g = absurd (false≢true (g refl))
bool_same false false f g = refl

module _ (count : ℕ) (k r : ℕ → ℕ → ℕ) where
  opens : List Window
  opens = open_windows count k r

  -- the mark of an open window
  abbrev mark : Window → Bool
  mark v = any (contends v) opens

  list_is : list_of count k r ≡ map (λ v. with_mark (mark v) v) (sorted opens)
  unfolding list_of opens
  list_is = map_same (λ v. with_mark (any (contends v) (sorted opens)) v) (λ v. with_mark (mark v) v) (λ v. rw (any_sorted (contends v) opens)) (sorted opens)

  long_open : (v : Window) → OpenAt count k r v → 0 < v.length
  long_open v o = rw (ap (λ (x : Window). x.length) o.same) (pow_pos (k o.function o.register))

  -- the mark says what `Contested` says; the window's own mark plays no part
  mark_is : (w : Window) → OpenAt count k r w → mark (with_mark false w) ≡ true ↔ Contested count k r w
  unfolding opens
  mark_is w o = (
    λ e.
        let t = (any_in (contends (with_mark false w)) opens).0 e in
        let p = (in_open k r count t.0 t.1).0 in
        let c = (contests_is (with_mark false w) t.0 (long_open w o) (long_open t.0 p)).0 t.2 in
        (t.0, p, remarked false t.0.contested w.contested t.0.contested w t.0 c),
    λ t.
        let c = t.2 in
        (any_in (contends (with_mark false w)) opens).1 (
          with_mark false t.0,
          open_in k r count t.0 t.1,
          (contests_is (with_mark false w) (with_mark false t.0) (long_open w o) (long_open t.0 t.1)).1
              (remarked w.contested t.0.contested false false w t.0 c),
        ),
  )

  from_open : (w : Window) → In w (list_of count k r) ↔ ((v : Window) × In v opens × (w ≡ with_mark (mark v) v))
  from_open w =
      rw list_is (
        λ i.
            let t = (in_map (λ v. with_mark (mark v) v) w (sorted opens)).0 i in
            (t.0, (in_sorted t.0 opens).0 t.1, t.2),
        λ t. (in_map (λ v. with_mark (mark v) v) w (sorted opens)).1 (t.0, (in_sorted t.0 opens).1 t.1, t.2),
      )

  -- an open window with the mark m
  as_marked : (v : Window) (m : Bool) → OpenAt count k r v → OpenAt count k r (with_mark m v)
  as_marked v m o = record { function = o.function; register = o.register; there = o.there; six = o.six; opened = o.opened; same = o.same }

  listed : (w : Window) → In w (list_of count k r) ↔ (OpenAt count k r w × ((w.contested ≡ true) ↔ Contested count k r w))
  unfolding opens
  listed w = (
    λ i.
        let t = (from_open w).0 i in
        let o = in_open k r count t.0 t.1 in
        let d = as_marked t.0 (mark t.0) o.0 in
        let b = mark_is (with_mark (mark t.0) t.0) d in
        let e : (with_mark (mark t.0) t.0).contested ≡ mark (with_mark false t.0) = rw o.1 in
        rw t.2 (d, (λ h. b.0 (sym e ∙ h), λ c. e ∙ b.1 c)),
    λ p.
        let b = mark_is w p.0 in
        let e : w.contested ≡ mark (with_mark false w) = bool_same _ _ (λ h. b.1 (p.1.0 h)) (λ h. p.1.1 (b.0 h)) in
        let d : w ≡ with_mark (mark (with_mark false w)) (with_mark false w) = rw (← e) in
        (from_open w).1 (with_mark false w, open_in k r count w p.0, d),
  )

  once : (w : Window) → In w (list_of count k r) → how_many (same_register w) (list_of count k r) ≡ 1
  unfolding opens open_windows
  once w i =
      let t = (from_open w).0 i in
      let e : how_many (same_register t.0) (sorted opens) ≡ 1 =
      many_sorted (same_register t.0) opens ∙ one_of t.0 opens t.1 (apart_slots k r (6 * count)) in
      rw (list_is, t.2, many_map (with_mark (mark t.0) t.0) mark (sorted opens)) e

  pub means : Means count k r (list_of count k r)
  unfolding opens open_windows
  means =
      record {
        listed = listed;
        once = once;
        ascending = rw list_is (ascending_map mark (sorted opens) (ascending_sorted opens (apart_slots k r (6 * count))));
      }

-- THEOREM: every open window exactly once and nothing else, in order, contested exactly where another open window of its space shares an address
pub list_means : ListMeans
list_means = means

-- and so the list of the lent parts
pub lent_list_means : LentListMeans
lent_list_means header records registers = list_means (function_count header) (exponent records) (register_byte registers)

base_same : (f g : ℕ → ℕ) (b : ℕ) → b < 6 → ((at : ℕ) → Watched at → f at ≡ g at) → base_register f b ≡ base_register g b
base_same f g b h e =
    little_same 4 f g (16 + 4 * b) (16 + 4 * b) (λ i l. ap (λ (x : ℕ). x % 256) (e (16 + 4 * b + i) (inr (omega arith))))

-- THEOREM: the list depends on the count, the exponents and the watched registers alone
pub list_same : ListSame
unfolding list_of open_windows window_at
list_same count k k' r r' ek er =
    let same : (s : ℕ) → s < 6 * count → window_at k r (s / 6) (s % 6) ≡ window_at k' r' (s / 6) (s % 6) =
    λ s h.
    let i : s / 6 < count = omega arith in
    let b : s % 6 < 6 = omega arith in
    rw (ek (s / 6) (s % 6) i b, er (s / 6) 4 i (inl refl), base_same (r (s / 6)) (r' (s / 6)) (s % 6) b (λ at w. er (s / 6) at i w))
    in
    rw (gather_same (slot k r) (slot k' r') (6 * count) same)

-- and so the list of the lent parts
pub list_depends_on : ListDependsOn
list_depends_on header header' records records' registers registers' e ek er =
    list_same (function_count header) (exponent records) (exponent records') (register_byte registers) (register_byte registers') ek er
    ∙ ap (λ (n : ℕ). list_of n (exponent records') (register_byte registers')) e
