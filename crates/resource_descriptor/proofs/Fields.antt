-- Laws of one descriptor's fields and bytes.
use Prim.Native.Nat.{ℕ, ◌+◌, ◌≤◌}
use native.Mathlib.Omega.{arith}
use mathlib.Core.Bool.{Bool, true, false, cond, ◌||◌}
use mathlib.Core.List.{List, ◌++◌}
use mathlib.Core.Path.{◌≡◌, refl, ◌∙◌}
use lib.Dec.{eqb}
use lib.ListN.{length, length-append}
use lib.Seq.{sets}
use borrow.Author.Tests.{eqb-true}
use Rattle.numbers.specs.Numbers.{big_bytes}
use Rattle.numbers.proofs.Stores.{sets_append}
use Rattle.numbers.proofs.Tables.{table_length}
use Rattle.resource_descriptor.specs.declared.descriptor.Descriptor.{Descriptor}
use Rattle.resource_descriptor.specs.Descriptor.{size, shown_order, descriptor_bytes}

-- a byte order that is shown has four bits
pub shown_small : (order : ℕ) → shown_order order ≤ 15
shown_small order = by (eqb order 1) (eqb order 2) (eqb order 15) refl refl refl
  where
    by : (a b c : Bool) → eqb order 1 ≡ a → eqb order 2 ≡ b → eqb order 15 ≡ c → cond (a || (b || c)) order 0 ≤ 15
    by true b c e f g = omega (arith, eqb-true order 1 e)
    by false true c e f g = omega (arith, eqb-true order 2 f)
    by false false true e f g = omega (arith, eqb-true order 15 g)
    by false false false e f g = omega arith

-- a run of stores, after one of n values
pub after : (l : List ℕ) (i n j : ℕ) (us vs : List ℕ) → length us ≡ n → i + n ≡ j → sets (sets l i us) j vs ≡ sets l i (us ++ vs)
after l i n j us vs e f = rw (← f, ← e) (sets_append l i us vs)

-- the six fields stored one after the other are the descriptor's bytes
pub stored_fields : (l : List ℕ) (at : ℕ) (d : Descriptor)
    → sets (sets (sets (sets (sets (sets l at (big_bytes 2 d.next)) (at + 2) (big_bytes 2 d.flags)) (at + 4) (big_bytes 4 d.start)) (at + 8) (big_bytes 4 d.length)) (at + 12) (big_bytes 4 d.offset)) (at + 16) (big_bytes 4 d.dmaoffset)
    ≡ sets l at (descriptor_bytes d)
unfolding descriptor_bytes
stored_fields l at d =
    let b = big_bytes 2 d.flags in
    let c = big_bytes 4 d.start in
    let e = big_bytes 4 d.length in
    let f = big_bytes 4 d.offset in
    let g = big_bytes 4 d.dmaoffset in
    after (sets (sets (sets (sets l at (big_bytes 2 d.next)) (at + 2) b) (at + 4) c) (at + 8) e) (at + 12) 4 (at + 16) f g (table_length 0 4 _) (omega arith)
    ∙ after (sets (sets (sets l at (big_bytes 2 d.next)) (at + 2) b) (at + 4) c) (at + 8) 4 (at + 12) e (f ++ g) (table_length 0 4 _) (omega arith)
    ∙ after (sets (sets l at (big_bytes 2 d.next)) (at + 2) b) (at + 4) 4 (at + 8) c (e ++ (f ++ g)) (table_length 0 4 _) (omega arith)
    ∙ after (sets l at (big_bytes 2 d.next)) (at + 2) 2 (at + 4) b (c ++ (e ++ (f ++ g))) (table_length 0 2 _) (omega arith)
    ∙ after l at 2 (at + 2) (big_bytes 2 d.next) (b ++ (c ++ (e ++ (f ++ g)))) (table_length 0 2 _) (omega arith)

-- a descriptor has 20 bytes
pub bytes_size : (d : Descriptor) → length (descriptor_bytes d) ≡ size
unfolding descriptor_bytes
bytes_size d = simp (length-append, table_length)
