-- The writer: document 01, "Board image" and "Load refusals", last sentence.
use Rattle.std.specs.Prelude.{ℕ, cond, List, ◌++◌, ltb, eqb, length, drop}
use Rattle.board.specs.Handles.{function_count}
use Rattle.image_layout.specs.Image.{image_size, image_of}
use Rattle.image_refusals.specs.Refusals.{Verdict, accepted, refused}
use Rattle.image_refusals.specs.declared.verdict.ImageRefusal.TheVariants.{Length, Count}

-- the verdict that is handed back, and what the lent output holds
pub record WriterOutcome : Type 0 where
  pub verdict : Verdict
  pub out : List ℕ

abbrev pub writer_outcome : Verdict → List ℕ → WriterOutcome
writer_outcome v out = record { verdict = v; out = out }

-- 1 is tested before 3; output past the image stays; the loaded values are written, without notes
unfoldable pub write_image : List ℕ → List ℕ → List ℕ → WriterOutcome
write_image header records out =
    cond (ltb (length out) (image_size (function_count header)))
    (writer_outcome (refused Length) out)
    (cond (eqb (function_count header) 0) (writer_outcome (refused Count) out)
    (writer_outcome accepted
    (image_of (function_count header) records ++ drop (image_size (function_count header)) out)))
