-- Rows with literal numbers of document 01, "Numbers handed back" and "Registers": which
-- configuration reads are refused, and what a read and a fast read hand back.
use Rattle.std.specs.Prelude.{ℕ, true, false, List, [], ◌∷◌, ◌++◌, map, ◌≡◌, ℤ, pos, neg_ℤ, replicate}
use Rattle.board.specs.Reads.{Read, value_of}
use Rattle.board.specs.Statuses.{number_of}
use Rattle.board.specs.declared.read.FastRead.{FastRead}
use Rattle.config_read.specs.Read.{read_config, fast_read_config}

-- what a read hands back, a number and a value: 0 and what it read, or -n and 0; a fast read has a
-- value and a fault flag
abbrev handed : Read → ℤ × ℕ
handed read = (number_of read, value_of read)

abbrev gives : ℕ → ℤ × ℕ
gives value = (pos 0, value)

abbrev refuses : ℕ → ℤ × ℕ
refuses n = (neg_ℤ (pos n), 0)

abbrev gives_fast : ℕ → FastRead
gives_fast value = record { value = value; fault = false }

abbrev faults : ℕ → FastRead
faults value = record { value = value; fault = true }

-- boards of one function and of two; registers FCh to FFh of handle 1, then 00h to 03h of handle 2
abbrev one : List ℕ
one = 1 ∷ 0 ∷ 0 ∷ 0 ∷ []

abbrev two : List ℕ
two = 2 ∷ 0 ∷ 0 ∷ 0 ∷ []

abbrev registers : List ℕ
registers = replicate 252 0 ++ (0xA1 ∷ 0xA2 ∷ 0xA3 ∷ 0xA4 ∷ 0x11 ∷ 0x22 ∷ 0x33 ∷ 0x44 ∷ [])

pub record ConfigReadRows : Type 0 where
  -- the order of checks: -9, then -5 (a word at an odd register)
  pub bad_handle_first : map (λ handle. handed (read_config 2 two registers handle 0x01))
      (0 ∷ 1 ∷ 2 ∷ 3 ∷ [])
      ≡ refuses 9 ∷ refuses 5 ∷ refuses 5 ∷ refuses 9 ∷ []
  -- -5: word not even, longword not a multiple of 4; values are little-endian
  pub bytes : map (λ at. handed (read_config 1 two registers 2 at)) (0x00 ∷ 0x01 ∷ 0x02 ∷ 0x03 ∷ [])
      ≡ gives 0x11 ∷ gives 0x22 ∷ gives 0x33 ∷ gives 0x44 ∷ []
  pub words : map (λ at. handed (read_config 2 two registers 2 at)) (0x00 ∷ 0x01 ∷ 0x02 ∷ 0x03 ∷ [])
      ≡ gives 0x2211 ∷ refuses 5 ∷ gives 0x4433 ∷ refuses 5 ∷ []
  pub longwords : map (λ at. handed (read_config 4 two registers 2 at)) (0x00 ∷ 0x01 ∷ 0x02 ∷ 0x03 ∷ 0x04 ∷ [])
      ≡ gives 0x44332211 ∷ refuses 5 ∷ refuses 5 ∷ refuses 5 ∷ gives 0 ∷ []
  -- no accepted access passes FFh, and each width reaches it
  pub last_bytes : map (λ at. handed (read_config 1 two registers 1 at)) (0xFB ∷ 0xFE ∷ 0xFF ∷ [])
      ≡ gives 0 ∷ gives 0xA3 ∷ gives 0xA4 ∷ []
  pub last_words : map (λ at. handed (read_config 2 two registers 1 at)) (0xFC ∷ 0xFD ∷ 0xFE ∷ 0xFF ∷ [])
      ≡ gives 0xA2A1 ∷ refuses 5 ∷ gives 0xA4A3 ∷ refuses 5 ∷ []
  pub last_longwords : map (λ at. handed (read_config 4 two registers 1 at)) (0xFC ∷ 0xFD ∷ 0xFE ∷ 0xFF ∷ [])
      ≡ gives 0xA4A3A2A1 ∷ refuses 5 ∷ refuses 5 ∷ refuses 5 ∷ []
  -- a refused read returns 0, whatever stands there
  pub refused : map (λ w. handed (read_config w one registers 2 0x00)) (1 ∷ 2 ∷ 4 ∷ [])
      ≡ refuses 9 ∷ refuses 9 ∷ refuses 9 ∷ []
  -- a refused fast read returns all ones of its width and a set fault flag
  pub refused_fast : map (λ w. fast_read_config w one registers 2 0x00) (1 ∷ 2 ∷ 4 ∷ [])
      ≡ faults 0xFF ∷ faults 0xFFFF ∷ faults 0xFFFFFFFF ∷ []
  pub odd_fast : map (λ w. fast_read_config w two registers 2 0x01) (1 ∷ 2 ∷ 4 ∷ [])
      ≡ gives_fast 0x22 ∷ faults 0xFFFF ∷ faults 0xFFFFFFFF ∷ []
  -- an accepted fast read equals the plain read
  pub accepted_fast : map (λ w. fast_read_config w two registers 2 0x00) (1 ∷ 2 ∷ 4 ∷ [])
      ≡ gives_fast 0x11 ∷ gives_fast 0x2211 ∷ gives_fast 0x44332211 ∷ []
