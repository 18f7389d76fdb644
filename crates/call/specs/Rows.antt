-- Rows with literal numbers of document 01, "Numbers handed back": the answer of each kind of call;
-- and which accesses write.
use Rattle.std.specs.Prelude.{ℕ, Bool, true, false, List, [], ◌∷◌, map, ◌≡◌, ℤ, pos, neg_ℤ, Result, Ok, Err}
use Rattle.board.specs.Addresses.{bus, cpu}
use Rattle.board.specs.Statuses.{successful, func_not_supported, bad_handle}
use Rattle.board.specs.declared.status.CallRefusal.{CallRefusal}
use Rattle.board.specs.declared.status.CallRefusal.TheVariants.{
  BadRegisterNumber,
  DeviceNotFound,
  BadHandle,
}
use Rattle.window_listing.specs.Listing.{listing_number, listing_values}
use Rattle.window_listing.specs.declared.listing.Listed.{Listed}
use Rattle.window_listing.specs.declared.listing.ListedWindow.TheVariants.{Memory, Io}
use Rattle.image_refusals.specs.declared.verdict.ImageRefusal.TheVariants.{Length, Count, Record}
use Rattle.call.specs.declared.answer.Answer.{Answer}
use Rattle.call.specs.declared.call.Access.TheVariants.{Read, FastRead, Write}
use Rattle.call.specs.Answers.{
  answer,
  of_status,
  of_verdict,
  of_search,
  of_read,
  of_fast_read,
  of_to_cpu,
  of_to_bus,
  of_chain,
  of_used,
}
use Rattle.call.specs.Calls.{writes}

-- an answer: number, refused or not, and the six values
abbrev said : ℤ → Bool → List ℕ → Answer
said number refused values = record { number = number; refused = refused; values = values }

-- of a refusal with a number below 0: the flag, and zeros
abbrev refusal : ℕ → Answer
refusal n = said (neg_ℤ (pos n)) true (0 ∷ 0 ∷ 0 ∷ 0 ∷ 0 ∷ 0 ∷ [])

abbrev listed : Result Listed CallRefusal → Answer
listed l = answer (listing_number l) (listing_values l)

pub record CallRows : Type 0 where
  -- 0 is no refusal, every other number is one
  pub statuses :
      map of_status (successful ∷ func_not_supported ∷ bad_handle ∷ [])
      ≡ said (pos 0) false (0 ∷ 0 ∷ 0 ∷ 0 ∷ 0 ∷ 0 ∷ []) ∷ refusal 2 ∷ refusal 9 ∷ []
  -- also the writer's, which are above 0
  pub writers :
      map (λ v. (of_verdict v).refused) (Ok tt ∷ Err Length ∷ Err Count ∷ []) ≡ false ∷ true ∷ true ∷ []
  -- a load's: the number, and the place of the first bad record
  pub loads :
      map of_verdict (Ok tt ∷ Err Length ∷ Err (Record 15) ∷ [])
      ≡ said (pos 0) false (0 ∷ 0 ∷ 0 ∷ 0 ∷ 0 ∷ 0 ∷ [])
      ∷ said (pos 1) true (0 ∷ 0 ∷ 0 ∷ 0 ∷ 0 ∷ 0 ∷ [])
      ∷ said (pos 6) true (15 ∷ 0 ∷ 0 ∷ 0 ∷ 0 ∷ 0 ∷ [])
      ∷ []
  -- a search's: a handle is no refusal; -4, -3 and -2 are
  pub searches :
      map of_search (pos 1 ∷ pos 16 ∷ neg_ℤ (pos 4) ∷ neg_ℤ (pos 3) ∷ neg_ℤ (pos 2) ∷ [])
      ≡ said (pos 1) false (0 ∷ 0 ∷ 0 ∷ 0 ∷ 0 ∷ 0 ∷ [])
      ∷ said (pos 16) false (0 ∷ 0 ∷ 0 ∷ 0 ∷ 0 ∷ 0 ∷ [])
      ∷ refusal 4
      ∷ refusal 3
      ∷ refusal 2
      ∷ []
  -- a read's: the number and the value
  pub reads :
      map of_read
      (Ok 0x89ABCDEF ∷ Err BadRegisterNumber ∷ [])
      ≡ said (pos 0) false (0x89ABCDEF ∷ 0 ∷ 0 ∷ 0 ∷ 0 ∷ 0 ∷ []) ∷ refusal 5 ∷ []
  -- a fast read's: the value and the fault flag, and no number
  pub fast_reads :
      map of_fast_read
      (record { value = 0x89AB; fault = false } ∷ record { value = 0xFFFF; fault = true } ∷ [])
      ≡ said (pos 0) false (0x89AB ∷ 0 ∷ 0 ∷ 0 ∷ 0 ∷ 0 ∷ [])
      ∷ said (pos 0) true (0xFFFF ∷ 0 ∷ 0 ∷ 0 ∷ 0 ∷ 0 ∷ [])
      ∷ []
  -- a conversion's: the number and the address
  pub to_cpu :
      map of_to_cpu
      (Ok (cpu 0x80000004) ∷ Err BadHandle ∷ [])
      ≡ said (pos 0) false (0x80000004 ∷ 0 ∷ 0 ∷ 0 ∷ 0 ∷ 0 ∷ []) ∷ refusal 9 ∷ []
  pub to_bus :
      map of_to_bus
      (Ok (bus 0x80000004) ∷ Err BadHandle ∷ [])
      ≡ said (pos 0) false (0x80000004 ∷ 0 ∷ 0 ∷ 0 ∷ 0 ∷ 0 ∷ []) ∷ refusal 9 ∷ []
  -- a listed window's: space (1 for I/O), start, length, handle, base register, contested mark
  pub windows :
      map listed
      (Ok (record {
        window = Memory (bus 0x80000400) 0x1000;
        handle = 2;
        base = 3;
        contested = false;
      })
      ∷ Ok (record {
        window = Io (bus 0x100) 0x10;
        handle = 4;
        base = 5;
        contested = true;
      })
      ∷ Err DeviceNotFound
      ∷ [])
      ≡ said (pos 0) false (0 ∷ 0x80000400 ∷ 0x1000 ∷ 2 ∷ 3 ∷ 0 ∷ [])
      ∷ said (pos 0) false (1 ∷ 0x100 ∷ 0x10 ∷ 4 ∷ 5 ∷ 1 ∷ [])
      ∷ refusal 4
      ∷ []
  -- a listed hook's: handle, handler, parameter
  pub hooks :
      of_chain (pos 0) (2 ∷ 0x2000 ∷ 7 ∷ [])
      ≡ said (pos 0) false (2 ∷ 0x2000 ∷ 7 ∷ 0 ∷ 0 ∷ 0 ∷ [])
  pub no_hook : of_chain (neg_ℤ (pos 8)) (0 ∷ 0 ∷ 0 ∷ []) ≡ refusal 8
  -- a used mark's: status and call-back address
  pub marks :
      map of_used
      (Ok (record { status = 2; call_back = 0x3000 }) ∷ Err BadHandle ∷ [])
      ≡ said (pos 0) false (2 ∷ 0x3000 ∷ 0 ∷ 0 ∷ 0 ∷ 0 ∷ []) ∷ refusal 9 ∷ []
  -- reads and fast reads do not write
  pub writing : map writes (Read ∷ FastRead ∷ Write 0 ∷ []) ≡ false ∷ false ∷ true ∷ []
