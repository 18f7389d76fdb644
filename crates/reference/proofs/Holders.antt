-- The first window of the list that holds an address, beside any open window that holds it: where one
-- of them is not contested they are the same. Where none of the list holds it, no open window does.
use Prim.Native.Nat.{ℕ}
use native.Mathlib.Omega.{arith}
use mathlib.Core.Bool.{Bool, true, false, false≢true}
use mathlib.Core.List.{List, [], ◌∷◌, ◌++◌}
use mathlib.Core.Logic.{inl, inr}
use mathlib.Core.Path.{◌≡◌, refl, sym, ap, ◌∙◌}
use lib.Dec.{eqb}
use lib.ListN.{length}
use borrow.Author.Tests.{eqb-true, eqb-false}
use Rattle.window.specs.Window.{Window, In}
use Rattle.window_list.specs.Windows.{with_mark}
use Rattle.window_list.specs.Meaning.{OpenAt, Contests, Means}
use Rattle.window_list.proofs.Meaning.{list_means}
use Rattle.data_window.specs.Meaning.{HeldBy, FirstHolder}
use Rattle.reference.specs.Reference.{Reference, exponent_of, windows_of}
use Rattle.reference.specs.FoundWindow.{Holder, IsContested}
use Rattle.reference.proofs.Tests.{if_either}

in_middle : (v : Window) (before after : List Window) → In v (before ++ (v ∷ after))
in_middle v [] after = inl refl
in_middle v (u ∷ before) after = inr (in_middle v before after)

-- a mark plays no part in what contests a window
remarked : (c d : Bool) (u x : Window) → Contests (with_mark c u) x → Contests (with_mark d u) x
remarked c d u x t =
    record { other = t.other; space = t.space; address = t.address; from_v = t.from_v; to_v = t.to_v; from_w = t.from_w; to_w = t.to_w }

module _ (b : Reference) (w space handle address : ℕ) where
  abbrev k : ℕ → ℕ → ℕ
  k = exponent_of b.records

  abbrev l : List Window
  l = windows_of b

  abbrev Open : Window → Type 0
  Open = OpenAt (length b.records) k b.registers

  abbrev Has : Window → Type 0
  Has = Holder b w space handle address

  abbrev Cont : Window → Type 0
  Cont = IsContested b w space handle address

  m : Means (length b.records) k b.registers l
  m = list_means (length b.records) k b.registers

  -- the windows of one base register are the same but for the mark
  one_register : (u v : Window) → Open u → Open v → u.handle ≡ v.handle → u.base ≡ v.base → with_mark false u ≡ with_mark false v
  one_register u v o p h e =
      let i : o.function ≡ p.function =
      omega (arith, ap (λ (x : Window). x.handle) o.same, ap (λ (x : Window). x.handle) p.same, h) in
      let r : o.register ≡ p.register =
      sym (ap (λ (x : Window). x.base) o.same) ∙ e ∙ ap (λ (x : Window). x.base) p.same in
      o.same ∙ rw (i, r) (sym p.same)

  -- the first holder of the list is an open one, and marked as it is contested
  module _ (u : Window) (f : FirstHolder space handle address l u) where
    u_in : In u l
    u_in = rw f.listed (in_middle u f.before f.after)

    u_has : Has u
    u_has = record { opened = ((m.listed u).0 u_in).0; holds = f.holder }

    u_marked : u.contested ≡ true → Cont u
    u_marked c = ((m.listed u).0 u_in).1.0 c

    u_clear : u.contested ≡ false → Cont u → ⊥
    u_clear c t = false≢true (sym c ∙ ((m.listed u).0 u_in).1.1 t)

    -- a holder of another base register contests it, so that of one that is not contested there is no other
    same_base : (v : Window) → Has v → (Cont v → ⊥) → u.base ≡ v.base
    same_base v h n =
        if_either (eqb u.base v.base) (λ e. eqb-true u.base v.base e)
        (λ e.
        absurd (n (
          u,
          u_has.opened,
          record {
            other = λ a c. eqb-false u.base v.base e c;
            space = f.holder.in_space ∙ sym h.holds.in_space;
            address = address;
            from_v = f.holder.from;
            to_v = f.holder.to;
            from_w = h.holds.from;
            to_w = h.holds.to;
          },
        )))

    same_window : (v : Window) → Has v → (Cont v → ⊥) → with_mark false u ≡ with_mark false v
    same_window v h n = one_register u v u_has.opened h.opened (f.holder.own ∙ sym h.holds.own) (same_base v h n)

    -- where a holder is not contested neither is the first one
    first_clear : (v : Window) → Has v → (Cont v → ⊥) → Cont u → ⊥
    first_clear v h n t =
        n (t.0, t.1, remarked false v.contested v t.0 (rw (same_window v h n) at (remarked u.contested false u t.0 t.2)))

  -- an open window is in the list, with a mark that says whether it is contested
  listed_with : (c : Bool) (v : Window) → Has v → (c ≡ true → Cont v) → (Cont v → c ≡ true) → In (with_mark c v) l
  listed_with c v h f g =
      (m.listed (with_mark c v)).1 (
        record { function = h.opened.function; register = h.opened.register; there = h.opened.there; six = h.opened.six; opened = h.opened.opened; same = h.opened.same },
        ((λ e. let t = f e in (t.0, t.1, remarked v.contested c v t.0 t.2)), (λ t. g (t.0, t.1, remarked c v.contested v t.0 t.2))),
      )

  held_with : (c : Bool) (v : Window) → Has v → HeldBy space handle address (with_mark c v)
  held_with c v h = record { in_space = h.holds.in_space; own = h.holds.own; six = h.holds.six; from = h.holds.from; to = h.holds.to }

  -- so that where none of the list holds the address no open window does
  pub none_open : ((v : Window) → In v l → HeldBy space handle address v → ⊥) → (v : Window) → Has v → ⊥
  none_open n v h =
      let clear : Cont v → ⊥ = λ t. n (with_mark true v) (listed_with true v h (λ e. t) (λ t. refl)) (held_with true v h) in
      n (with_mark false v) (listed_with false v h (λ e. absurd (false≢true e)) (λ t. absurd (clear t))) (held_with false v h)

  -- where a holder is contested so is the first one: it is the same window, or the holder contests it
  first_contested : (u : Window) → FirstHolder space handle address l u → (v : Window) → Has v → Cont v → Cont u
  first_contested u f v h t =
      if_either (eqb u.base v.base)
      (λ e.
      let s = one_register u v (u_has u f).opened h.opened (f.holder.own ∙ sym h.holds.own) (eqb-true u.base v.base e) in
      (t.0, t.1, remarked false u.contested u t.0 (rw (← s) at (remarked v.contested false v t.0 t.2))))
      (λ e. (
        v,
        h.opened,
        record {
          other = λ a c. eqb-false u.base v.base e (sym c);
          space = h.holds.in_space ∙ sym f.holder.in_space;
          address = address;
          from_v = h.holds.from;
          to_v = h.holds.to;
          from_w = f.holder.from;
          to_w = f.holder.to;
        },
      ))

  -- what is known of a first holder, beside any holder v
  pub record First (u : Window) : Type 0 where
    pub has : Has u
    pub marked : u.contested ≡ true → Cont u
    pub clear : u.contested ≡ false → Cont u → ⊥
    pub base : (v : Window) → Has v → (Cont v → ⊥) → u.base ≡ v.base
    pub window : (v : Window) → Has v → (Cont v → ⊥) → with_mark false u ≡ with_mark false v
    pub never : (v : Window) → Has v → (Cont v → ⊥) → Cont u → ⊥
    pub also : (v : Window) → Has v → Cont v → Cont u

  pub first : (u : Window) → FirstHolder space handle address l u → First u
  first u f =
      record {
        has = u_has u f;
        marked = u_marked u f;
        clear = u_clear u f;
        base = same_base u f;
        window = same_window u f;
        never = first_clear u f;
        also = first_contested u f;
      }
