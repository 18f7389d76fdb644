-- What the window list means (document 01, "Windows"): statements alone, proved in
-- proofs/Meaning.antt and proofs/KeptArray.antt.
use Rattle.std.specs.Prelude.{ℕ, ◌+◌, ◌≤◌, ◌<◌, Bool, true, false, ◌&&◌, cond, List, [], ◌∷◌, ◌↔◌, ◌⊎◌, ◌≡◌, eqb}
use Rattle.board.specs.Handles.{function_count}
use Rattle.board.specs.Layout.{bases, exponent, register_byte, command, base_register}
use Rattle.window.specs.Window.{Window, end, is_open, window_of, In}
use Rattle.window_list.specs.Windows.{with_mark, before, list_of, window_list}
use Rattle.window.specs.Kept.{unpacked}
use Rattle.window_list.specs.Kept.{kept_list}

-- each window of a list has P
abbrev pub EveryWindow : (Window → Type 0) → List Window → Type 0
EveryWindow P [] = Unit {0}
EveryWindow P (w ∷ l) = P w × EveryWindow P l

-- how many of a list a test holds of
abbrev pub how_many : (Window → Bool) → List Window → ℕ
how_many p [] = 0
how_many p (w ∷ l) = cond (p w) 1 0 + how_many p l

abbrev pub same_register : Window → Window → Bool
same_register v w = eqb w.handle v.handle && eqb w.base v.base

-- w is the window of an open base register; its mark plays no part
pub record OpenAt (count : ℕ) (k r : ℕ → ℕ → ℕ) (w : Window) : Type 0 where
  pub function : ℕ
  pub register : ℕ
  pub there : function < count
  pub six : register < bases
  pub opened : is_open (k function register) (base_register (r function) register)
      (command (r function)) ≡ true
  pub same : with_mark false w
      ≡ window_of (k function register) (base_register (r function) register) (function + 1) register

-- v is a window of another base register, of w's space, and an address lies in both
pub record Contests (w v : Window) : Type 0 where
  pub other : v.handle ≡ w.handle → v.base ≡ w.base → ⊥
  pub space : v.space ≡ w.space
  pub address : ℕ
  pub from_v : v.start ≤ address
  pub to_v : address < end v
  pub from_w : w.start ≤ address
  pub to_w : address < end w

-- another open window, of any function, contests it
abbrev pub Contested : ℕ → (ℕ → ℕ → ℕ) → (ℕ → ℕ → ℕ) → Window → Type 0
Contested count k r w = (v : Window) × OpenAt count k r v × Contests w v

-- each before all that follow
abbrev pub Ascending : List Window → Type 0
Ascending [] = Unit {0}
Ascending (w ∷ l) = EveryWindow (λ v. before w v ≡ true) l × Ascending l

-- every open window, once, with its mark, and nothing else; in order
pub record Means (count : ℕ) (k r : ℕ → ℕ → ℕ) (l : List Window) : Type 0 where
  pub listed : (w : Window) → In w l
      ↔ (OpenAt count k r w × ((w.contested ≡ true) ↔ Contested count k r w))
  pub once : (w : Window) → In w l → how_many (same_register w) l ≡ 1
  pub ascending : Ascending l

-- the list of every count of functions, their exponents k and their registers r, whoever holds them
abbrev pub ListMeans : Type 0
ListMeans = (count : ℕ) (k r : ℕ → ℕ → ℕ) → Means count k r (list_of count k r)

-- so that of the lent parts
abbrev pub LentListMeans : Type 0
LentListMeans =
    (header records registers : List ℕ)
    → Means (function_count header) (exponent records) (register_byte registers)
    (window_list header records registers)

-- the kept numbers, unpacked, are the list
abbrev pub KeptIsList : Type 0
KeptIsList =
    (header records registers : List ℕ)
    → unpacked (kept_list (window_list header records registers))
    ≡ window_list header records registers

-- the command byte and the base registers
abbrev pub Watched : ℕ → Type 0
Watched at = (at ≡ 0x04) ⊎ ((0x10 ≤ at) × (at < 0x28))

-- the list depends on the count, the exponents and the watched registers of the functions there
-- are, and on nothing else
abbrev pub ListSame : Type 0
ListSame =
    (count : ℕ) (k k' r r' : ℕ → ℕ → ℕ)
    → ((i b : ℕ) → i < count → b < bases → k i b ≡ k' i b)
    → ((i at : ℕ) → i < count → Watched at → r i at ≡ r' i at)
    → list_of count k r ≡ list_of count k' r'

-- so that of the lent parts
abbrev pub ListDependsOn : Type 0
ListDependsOn =
    (header header' records records' registers registers' : List ℕ)
    → function_count header ≡ function_count header'
    → ((i b : ℕ) → i < function_count header → b < bases
    → exponent records i b ≡ exponent records' i b)
    → ((i at : ℕ) → i < function_count header → Watched at
    → register_byte registers i at ≡ register_byte registers' i at)
    → window_list header records registers ≡ window_list header' records' registers'
