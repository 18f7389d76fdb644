-- What data calls and images mean, said of the calls themselves, on any board: document 01,
-- "Numbers handed back", "Data and byte order" and "Board image". Statements alone, proved in
-- proofs/SingleCalls.antt.
use Rattle.std.specs.Prelude.{ℕ, ◌%◌, ◌^◌, ◌≤◌, Bool, true, false, List, [], ◌∷◌, ◌≡◌, pos, length, take}
use Rattle.board.specs.Parts.{Parts}
use Rattle.board.specs.Spaces.{space_number}
use Rattle.call_edition.specs.declared.edition.InEdition.{InEdition}
use Rattle.board.specs.declared.space.Space.{Space}
use Rattle.numbers.specs.Numbers.{bytes}
use Rattle.numbers.specs.declared.number.Width.{Width}
use Rattle.data_cells.specs.Cells.{CellTarget, cell_target}
use Rattle.data_access.specs.Meaning.{HasCell}
use Rattle.image_layout.specs.Image.{image_size, count_of}
use Rattle.call.specs.declared.answer.Answer.{Answer}
use Rattle.call.specs.declared.call.Call.{Call}
use Rattle.call.specs.declared.call.Access.{Access}
use Rattle.call.specs.declared.call.Access.TheVariants.{Read, FastRead, Write}
use Rattle.call.specs.declared.call.Call.TheVariants.{
  Load,
  Reset,
  WriteImage,
  Config,
  Data,
  GetResource,
  HookInterrupt,
  UnhookInterrupt,
  SetCardUsed,
  Ask,
}
use Rattle.call.specs.Answers.{answer, one}
use Rattle.call.specs.Calls.{writes}
use Rattle.reference.specs.State.{Outcome, step}
use Rattle.reference.specs.Run.{Request, parts_after}

-- an accepted fast data read equals the plain one, and is refused exactly where that is
pub record SameRead (fast plain : Answer) : Type 0 where
  pub refused : fast.refused ≡ plain.refused
  pub values : fast.refused ≡ false → fast.values ≡ plain.values

abbrev pub FastIsPlain : Type 0
FastIsPlain =
    (p : Parts) (space : Space) (width : Width) (handle : ℕ) (address : InEdition) (own : List ℕ)
    → SameRead (step p (Data space width handle address FastRead) own).answer
    (step p (Data space width handle address Read) own).answer

-- a read after an accepted write by the same handle, address, edition and width gives the value
-- back, of which the bytes of the width were taken
abbrev pub ReadAfterWrite : Type 0
ReadAfterWrite =
    (p : Parts) (space : Space) (width : Width) (handle : ℕ) (address : InEdition) (value : ℕ)
    (own mine : List ℕ)
    → (let wrote = step p (Data space width handle address (Write value)) own in
    wrote.answer.refused ≡ false
    → (step wrote.parts (Data space width handle address Read) mine).answer
    ≡ answer (pos 0) (one (value % 256 ^ bytes width)))

-- the cells of a data access
abbrev pub cells_of_access : Parts → Space → Width → ℕ → InEdition → CellTarget
cells_of_access p space width handle address =
    cell_target (bytes width) p.header p.records p.windows p.cell_offsets
    (length p.cells) (space_number space) handle address

-- every data read, of any width, space, handle and edition, plain or fast, that has none of the
-- written cells is unchanged
abbrev pub OtherReads : Type 0
OtherReads =
    (p : Parts) (space space' : Space) (width width' : Width) (handle handle' : ℕ)
    (address address' : InEdition) (value : ℕ) (access : Access) (own mine : List ℕ)
    → writes access ≡ false
    → ((j : ℕ) → HasCell (bytes width) (cells_of_access p space width handle address) j
    → HasCell (bytes width') (cells_of_access p space' width' handle' address') j → ⊥)
    → (let wrote = step p (Data space width handle address (Write value)) own in
    (step wrote.parts (Data space' width' handle' address' access) mine).answer
    ≡ (step p (Data space' width' handle' address' access) mine).answer)

-- a call that is no load
abbrev pub is_load : Call → Bool
is_load Load = true
is_load Reset = false
is_load WriteImage = false
is_load (Config width handle register access) = false
is_load (Data space width handle address access) = false
is_load (GetResource handle) = false
is_load (HookInterrupt handle handler parameter) = false
is_load (UnhookInterrupt handle) = false
is_load (SetCardUsed handle status call_back) = false
is_load (Ask query) = false

abbrev pub NoLoad : List Request → Type 0
NoLoad [] = Unit {0}
NoLoad (c ∷ cs) = (is_load c.call ≡ false) × NoLoad cs

-- what a load of these bytes answers and leaves on a board is what a load of those does
pub record LoadsAs (p : Parts) (these those : List ℕ) : Type 0 where
  pub answer : (step p Load these).answer ≡ (step p Load those).answer
  pub parts : (step p Load these).parts ≡ (step p Load those).parts

-- the board is written, and the image at the front of the output loads everywhere as the first did
pub record WrittenAgain (image : List ℕ) (n : Outcome) : Type 0 where
  pub accepted : n.answer.refused ≡ false
  pub loads : (p : Parts) → LoadsAs p (take (image_size (count_of image)) n.own) image

-- load, any calls but a load, write image, load again: the same records; the output may be longer
abbrev pub RecordsKept : Type 0
RecordsKept =
    (p : Parts) (image out : List ℕ) (cs : List Request)
    → (step p Load image).answer.refused ≡ false
    → NoLoad cs
    → image_size (count_of image) ≤ length out
    → WrittenAgain image (step (parts_after (step p Load image).parts cs) WriteImage out)

-- THE LAWS OF SINGLE CALLS
pub record CallLaws : Type 0 where
  pub fast_is_plain : FastIsPlain
  pub read_after_write : ReadAfterWrite
  pub other_reads : OtherReads
  pub records_kept : RecordsKept
