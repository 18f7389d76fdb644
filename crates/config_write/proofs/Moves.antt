-- The kept list follows the registers: it is worked out anew exactly where a byte that it depends
-- on is addressed.
use Prim.Native.Nat.{ℕ, ◌+◌, ◌-◌, ◌<◌, ◌≤◌}
use native.Mathlib.Omega.{arith}
use mathlib.Core.Bool.{Bool, true, false, ◌&&◌, ◌||◌, cond, or-true, false≢true}
use mathlib.Core.List.{List}
use mathlib.Core.Logic.{inl, inr, ⊎_elim}
use mathlib.Core.Path.{◌≡◌, refl, sym, ◌∙◌, ap}
use lib.Dec.{leb, ltb}
use borrow.Author.Tests.{le-leb, lt-ltb, leb-true, ltb-true}
use Rattle.board.specs.Handles.{is_handle}
use Rattle.board.specs.Layout.{registers_each, mask_byte}
use Rattle.numbers.proofs.Tests.{both_true}
use Rattle.window_list.specs.Kept.{kept_list}
use Rattle.window_list.specs.Meaning.{Watched}
use Rattle.window_list.specs.Windows.{window_list}
use Rattle.window_list.proofs.Meaning.{list_depends_on}
use Rattle.board.specs.declared.status.CallRefusal.{CallRefusal}
use Rattle.std.specs.Prelude.{Result, Ok, Err}
use Rattle.config_read.specs.Target.{target}
use Rattle.config_write.specs.Write.{clear_mask_byte, registers_written, moves_windows, write_to}
use Rattle.config_write.specs.Meaning.{MovesWindows, ListFollows}
use Rattle.config_read.proofs.Targets.{inside_registers}
use Rattle.config_write.proofs.Written.{written_elsewhere}

-- where a byte that the list depends on is addressed, the list is worked out anew
watched_moves : (w register at : ℕ) → Watched at → register ≤ at → at < register + w → moves_windows w register ≡ true
watched_moves w register at =
    ⊎_elim
    (λ e l u. rw (le-leb register 0x04 (omega arith), lt-ltb 0x04 (register + w) (omega arith)))
    (λ k l u. rw (lt-ltb register 0x28 (omega arith), lt-ltb 0x10 (register + w) (omega arith), or-true))

-- and where it is worked out anew, this is the first such byte
moves_watched : (w register : ℕ) → 0 < w → moves_windows w register ≡ true → (d : ℕ) × (d < w) × Watched (register + d)
moves_watched w register h = by _ _ refl refl
  where
    by : (p q : Bool) → (leb register 0x04 && ltb 0x04 (register + w)) ≡ p → (ltb register 0x28 && ltb 0x10 (register + w)) ≡ q
        → (p || q) ≡ true → (d : ℕ) × (d < w) × Watched (register + d)
    by true q e f o =
        let t = both_true (leb register 0x04) _ e in
        let from = leb-true register 0x04 t.0 in
        let to = ltb-true 0x04 (register + w) t.1 in
        (0x04 - register, omega arith, inl (omega arith))
    by false true e f o =
        let t = both_true (ltb register 0x28) _ f in
        let from = ltb-true register 0x28 t.0 in
        let to = ltb-true 0x10 (register + w) t.1 in
        (0x10 - register, omega arith, inr (omega arith))
    by false false e f o = absurd (false≢true o)

-- THEOREM: the list is worked out anew exactly where a byte of 04h or 10h-27h is addressed
pub moves_windows_lem : MovesWindows
moves_windows_lem w register h = (
  moves_watched w register h,
  λ t. watched_moves w register (register + t.0) t.2 (omega arith) (omega (arith, t.1)),
)

watched_inside : (at : ℕ) → Watched at → at < registers_each
watched_inside at = ⊎_elim (λ e. omega arith) (λ k. omega arith)

-- of two lists that are the same where the second is chosen, the choice is the first
kept_same : (t : Bool) (l m : List ℕ) → (t ≡ false → m ≡ l) → cond t l m ≡ l
kept_same true l m f = refl
kept_same false l m f = f refl

-- after an accepted write, the list that was kept or worked out anew is the list of the registers
list_after : (w : ℕ) (header records registers windows : List ℕ) (i register value : ℕ) → register + w ≤ registers_each
    → windows ≡ kept_list (window_list header records registers)
    → (write_to header records registers windows w register value (Ok i)).windows
    ≡ kept_list (window_list header records (registers_written w records i register value registers))
list_after w header records registers windows i register value h e =
    let after = registers_written w records i register value registers in
    kept_same (moves_windows w register) (kept_list (window_list header records after)) windows
    (λ m. e ∙ ap kept_list (list_depends_on header header records records registers after refl (λ j b l k. refl)
    (λ j at l k. sym (written_elsewhere (mask_byte records i) (clear_mask_byte records i) i w register value registers
    j at h (watched_inside at k)
    (λ _ f t. false≢true (sym m ∙ watched_moves w register at k f t))))))

-- THEOREM: a kept list that is the list of its board stays so
pub list_follows : ListFollows
list_follows w header records registers windows handle register value e = by (target (is_handle header handle) w handle register) refl
  where
    by : (t : Result ℕ CallRefusal) → target (is_handle header handle) w handle register ≡ t
        → (write_to header records registers windows w register value t).windows
        ≡ kept_list (window_list header records (write_to header records registers windows w register value t).registers)
    by (Err s) f = cc e
    by (Ok i) f = list_after w header records registers windows i register value (inside_registers _ w handle register i f) e
