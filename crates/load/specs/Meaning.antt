-- What images mean (document 01, "Board image"): statements alone, proved in proofs/Trip.antt.
use Rattle.std.specs.Prelude.{ℕ, ◌<◌, ◌≤◌, List, ◌++◌, ◌≡◌, length, take, drop}
use Rattle.numbers.specs.Numbers.{byte_at}
use Rattle.board.specs.Parts.{Parts}
use Rattle.image_layout.specs.Image.{image_size, count_of}
use Rattle.image_refusals.specs.Refusals.{accepted}
use Rattle.image_writer.specs.Write.{WriterOutcome, write_image}
use Rattle.load.specs.Load.{load}

-- what the writer leaves of a board that was loaded from an image
abbrev pub rewritten : Parts → List ℕ → List ℕ → WriterOutcome
rewritten p image out = write_image (load p image).parts.header (load p image).parts.records out

-- a loaded board is written, and the image at the front of the output loads as the first one does:
-- on every board the same verdict and the same parts
pub record SameBoard (p : Parts) (image out : List ℕ) : Type 0 where
  pub verdict : (rewritten p image out).verdict ≡ accepted
  pub loads : (q : Parts)
      → load q (take (image_size (count_of image)) (rewritten p image out).out) ≡ load q image

abbrev pub RoundTrip : Type 0
RoundTrip =
    (p : Parts) (image out : List ℕ)
    → (load p image).verdict ≡ accepted
    → image_size (count_of image) ≤ length out
    → SameBoard p image out

-- an image with no notes is written back byte for byte, and output past it stays
abbrev pub WrittenBack : Type 0
WrittenBack =
    (p : Parts) (image out : List ℕ)
    → (load p image).verdict ≡ accepted
    → length image ≡ image_size (count_of image)
    → ((i : ℕ) → byte_at image i < 256)
    → length image ≤ length out
    → (rewritten p image out).out ≡ image ++ drop (length image) out

-- of the lent parts an accepted load depends on the cells alone; all else that stood there is lost
abbrev pub ImageAlone : Type 0
ImageAlone =
    (p q : Parts) (image : List ℕ)
    → p.cells ≡ q.cells
    → (load p image).verdict ≡ accepted
    → load q image ≡ load p image
