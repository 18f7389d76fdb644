-- Laws of an array that holds hooks one after the other: its entries, chains, positions and
-- handles, and the array after a hook and an unhook.
use Prim.Native.Nat.{ℕ, zero, suc, ◌+◌, ◌*◌, ◌-◌, ◌/◌, ◌<◌, ◌≤◌}
use native.Mathlib.Omega.{arith}
use native.Mathlib.Nat.{add-zero, zero-add}
use mathlib.Core.Bool.{Bool, true, false, cond, ◌||◌, not, and-true}
use mathlib.Core.List.{List, [], ◌∷◌, ◌++◌, append-nil}
use mathlib.Core.Path.{◌≡◌, refl, sym, ◌∙◌, ap}
use lib.Dec.{eqb, ltb}
use lib.ListN.{length, get_or, replicate, length-append, length-replicate, get_or-append, get_or-eq_default}
use lib.Seq.{get_or-append-add, ext_get_or}
use borrow.Author.Tests.{ne_eqb, lt-ltb, le-ltb}
use Rattle.board.specs.Layout.{functions_max, hook_size}
use Rattle.numbers.proofs.Tables.{table_length, table_get}
use Rattle.interrupt_array.specs.declared.hooks.Hook.{Hook}
use Rattle.interrupt_array.specs.Hooks.{no_hook, hook_at, hooks_from, hooks_of, array_number, array_of, line_of, chosen, on_line, chain_of, hook_numbers, packed}
use Rattle.interrupt_hook.specs.Chain.{first_from, is_hooked, is_free}
use Rattle.interrupt_hook.specs.Meaning.{EveryHook, is_among}
use Rattle.interrupt_edit.proofs.Numbers.{number_here}
use Rattle.interrupt_hook.proofs.Entries.{chosen_append}

-- zeros hold no hook
zero_at : (n j : ℕ) → get_or (replicate {A = ℕ} n 0) j 0 ≡ 0
zero_at zero j = refl
zero_at (suc n) zero = refl
zero_at (suc n) (suc j) = zero_at n j

numbers_at : (hs : List Hook) (n e : ℕ) → hook_at (hook_numbers hs ++ replicate n 0) e ≡ get_or hs e no_hook
unfolding hook_numbers
numbers_at [] n e = rw (zero_at n (3 * e), zero_at n (3 * e + 1), zero_at n (3 * e + 2))
numbers_at (h ∷ hs) n zero = refl
numbers_at (h ∷ hs) n (suc e) =
    let a : 3 * suc e ≡ suc (suc (suc (3 * e))) = omega arith in
    let b : 3 * suc e + 1 ≡ suc (suc (suc (3 * e + 1))) = omega arith in
    let c : 3 * suc e + 2 ≡ suc (suc (suc (3 * e + 2))) = omega arith in
    rw (b, c, a) (numbers_at hs n e)

-- entry e is the e-th hook, or none
pub packed_at : (hs : List Hook) (e : ℕ) → hook_at (packed hs) e ≡ get_or hs e no_hook
packed_at hs e = numbers_at hs (functions_max * hook_size - length (hook_numbers hs)) e

numbers_length : (hs : List Hook) → length (hook_numbers hs) ≡ hook_size * length hs
unfolding hook_numbers
numbers_length [] = refl
numbers_length (h ∷ hs) = omega (arith, numbers_length hs)

pub packed_length : (hs : List Hook) → length hs ≤ functions_max → length (packed hs) ≡ functions_max * hook_size
packed_length hs h =
    length-append (hook_numbers hs) (replicate (functions_max * hook_size - length (hook_numbers hs)) 0)
    ∙ rw (length-replicate {A = ℕ} (functions_max * hook_size - length (hook_numbers hs)) 0) (omega (arith, numbers_length hs))

-- an array with these entries is packed
pub array_packed : (f : ℕ → Hook) (hs : List Hook) → length hs ≤ functions_max → ((e : ℕ) → e < functions_max → f e ≡ get_or hs e no_hook) → array_of f ≡ packed hs
array_packed f hs h same =
    ext_get_or 0 (array_of f) (packed hs) (table_length 0 48 (array_number f) ∙ sym (packed_length hs h))
    (λ j l. let k : j < 48 = rw table_length at l in number j k)
  where
    number : (j : ℕ) → j < 48 → get_or (array_of f) j 0 ≡ get_or (packed hs) j 0
    number j k =
        table_get 0 48 (array_number f) j k
        ∙ rw (zero-add j, same (j / 3) (omega arith), ← packed_at hs (j / 3)) (number_here (packed hs) j)

-- the entries are the hooks, then none
list_entries : (n : ℕ) (hs : List Hook) (i : ℕ) (f : ℕ → Hook) → length hs ≤ n → ((j : ℕ) → j < n → f (i + j) ≡ get_or hs j no_hook)
    → hooks_from i n f ≡ hs ++ replicate (n - length hs) no_hook
unfolding hooks_from
list_entries zero [] i f h same = refl
list_entries zero (g ∷ hs) i f h same = absurd (omega arith)
list_entries (suc n) [] i f h same =
    let first : f i ≡ no_hook = rw (add-zero i) at (same 0 (omega arith)) in
    let a : suc n - 0 ≡ suc n = omega arith in
    let b : n - 0 ≡ n = omega arith in
    let rest = list_entries n [] (i + 1) f (omega arith) (λ j l. ap f (omega arith) ∙ same (suc j) (omega arith)) in
    rw (a, first) (ap (λ (l : List Hook). no_hook ∷ l) (rw b at rest))
list_entries (suc n) (g ∷ hs) i f h same =
    let first : f i ≡ g = rw (add-zero i) at (same 0 (omega arith)) in
    let a : suc n - suc (length hs) ≡ n - length hs = omega arith in
    rw (a, first) (ap (λ (l : List Hook). g ∷ l) (list_entries n hs (i + 1) f (omega arith) (λ j l. ap f (omega arith) ∙ same (suc j) (omega arith))))

pub packed_entries : (hs : List Hook) → length hs ≤ functions_max → hooks_of (packed hs) ≡ hs ++ replicate (functions_max - length hs) no_hook
packed_entries hs h = list_entries functions_max hs 0 (hook_at (packed hs)) h (λ j l. packed_at hs (0 + j) ∙ rw (zero-add j))

-- the chain of a line is the hooks of that line
none_chosen : (t : Hook → Bool) (n : ℕ) → t no_hook ≡ false → chosen t (replicate n no_hook) ≡ []
unfolding chosen
none_chosen t zero e = refl
none_chosen t (suc n) e = rw e (none_chosen t n e)

chosen_same : (t u : Hook → Bool) (hs : List Hook) → EveryHook (λ h. t h ≡ u h) hs → chosen t hs ≡ chosen u hs
unfolding chosen
chosen_same t u [] e = refl
chosen_same t u (h ∷ hs) e = rw (e.0, chosen_same t u hs e.1)

pub every_map : (P Q : Hook → Type 0) → ((h : Hook) → P h → Q h) → (hs : List Hook) → EveryHook P hs → EveryHook Q hs
every_map P Q f [] a = tt
every_map P Q f (h ∷ hs) a = (f h a.0, every_map P Q f hs a.1)

pub packed_chain : (records : List ℕ) (line : ℕ) (hs : List Hook) → length hs ≤ functions_max → EveryHook (λ h. h.handle ≡ 0 → ⊥) hs
    → chain_of records (packed hs) line ≡ chosen (λ h. eqb (line_of records h.handle) line) hs
packed_chain records line hs h real =
    let t = on_line records line in
    ap (chosen t) (packed_entries hs h)
    ∙ chosen_append t hs (replicate (functions_max - length hs) no_hook)
    ∙ rw (none_chosen t (functions_max - length hs) refl) (append-nil (chosen t hs))
    ∙ chosen_same t (λ g. eqb (line_of records g.handle) line) hs
    (every_map (λ g. g.handle ≡ 0 → ⊥) (λ g. t g ≡ eqb (line_of records g.handle) line) (λ g n. rw (ne_eqb g.handle 0 n)) hs real)

-- a property of every hook holds of the e-th, and of what stands past the end if it holds there
pub every_at : (P : Hook → Type 0) (hs : List Hook) (e : ℕ) → EveryHook P hs → e < length hs → P (get_or hs e no_hook)
every_at P [] e a h = absurd (omega arith)
every_at P (g ∷ hs) zero a h = a.0
every_at P (g ∷ hs) (suc e) a h = every_at P hs e a.1 (omega arith)

pub every_or_none : (P : Hook → Type 0) (hs : List Hook) (e : ℕ) → EveryHook P hs → P no_hook → P (get_or hs e no_hook)
every_or_none P [] e a n = n
every_or_none P (g ∷ hs) zero a n = a.0
every_or_none P (g ∷ hs) (suc e) a n = every_or_none P hs e a.1 n

-- an entry of two lists, one after the other
pub in_first_lem : (low high : List Hook) (e : ℕ) → e < length low → hook_at (packed (low ++ high)) e ≡ get_or low e no_hook
in_first_lem low high e h = packed_at (low ++ high) e ∙ get_or-append low high no_hook e h

pub in_second : (low high : List Hook) (e : ℕ) → length low ≤ e → hook_at (packed (low ++ high)) e ≡ get_or high (e - length low) no_hook
in_second low high e h =
    let k : e ≡ length low + (e - length low) = omega arith in
    packed_at (low ++ high) e ∙ ap (λ j. get_or (low ++ high) j no_hook) k ∙ get_or-append-add low high (e - length low) no_hook

-- a handle is the array's exactly if it is among the hooks
among : (handle n : ℕ) (hs : List Hook) (i : ℕ) (f : ℕ → Hook) → (handle ≡ 0 → ⊥) → length hs ≤ n → ((j : ℕ) → j < n → f (i + j) ≡ get_or hs j no_hook)
    → ltb (first_from (λ e. eqb (f e).handle handle) i n) (i + n) ≡ is_among handle hs
unfolding first_from is_among
among handle zero [] i f nz h same = le-ltb i (i + 0) (omega arith)
among handle zero (g ∷ hs) i f nz h same = absurd (omega arith)
among handle (suc n) [] i f nz h same =
    let first : f i ≡ no_hook = rw (add-zero i) at (same 0 (omega arith)) in
    let k : i + suc n ≡ i + 1 + n = omega arith in
    rw (first, ne_eqb 0 handle (λ z. nz (sym z)), k)
    (among handle n [] (i + 1) f nz (omega arith) (λ j l. ap f (omega arith) ∙ same (suc j) (omega arith)))
among handle (suc n) (g ∷ hs) i f nz h same =
    let first : f i ≡ g = rw (add-zero i) at (same 0 (omega arith)) in
    let k : i + suc n ≡ i + 1 + n = omega arith in
    rw (first, k)
    (by (eqb g.handle handle) (first_from (λ e. eqb (f e).handle handle) (i + 1) n) (among handle n hs (i + 1) f nz (omega arith) (λ j l. ap f (omega arith) ∙ same (suc j) (omega arith))))
  where
    by : (b : Bool) (rest : ℕ) → ltb rest (i + 1 + n) ≡ is_among handle hs → ltb (cond b i rest) (i + 1 + n) ≡ (b || is_among handle hs)
    by true rest e = lt-ltb i (i + 1 + n) (omega arith)
    by false rest e = e

pub packed_hooked : (hs : List Hook) (handle : ℕ) → length hs ≤ functions_max → (handle ≡ 0 → ⊥) → is_hooked (packed hs) handle ≡ is_among handle hs
packed_hooked hs handle h nz = among handle functions_max hs 0 (hook_at (packed hs)) nz h (λ j l. packed_at hs (0 + j) ∙ rw (zero-add j))

-- where there is room, a function is free to hook exactly if it is not among them
pub packed_free : (hs : List Hook) (handle : ℕ) → length hs < functions_max → (handle ≡ 0 → ⊥) → is_free (packed hs) handle ≡ not (is_among handle hs)
packed_free hs handle h nz =
    let last : (hook_at (packed hs) 15).handle ≡ 0 = ap (λ (g : Hook). g.handle) (packed_at hs 15 ∙ get_or-eq_default hs no_hook (omega arith)) in
    rw (packed_hooked hs handle (omega arith) nz, last) (and-true (not (is_among handle hs)))
