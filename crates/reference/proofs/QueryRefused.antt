-- Claim 1 for queries: a refused one gives a stated number and zeros. That it touches nothing is
-- its type's.
use Prim.Native.Nat.{ℕ, zero, suc}
use mathlib.Core.Bool.{true, false, true≢false}
use mathlib.Core.Logic.{inl, inr}
use mathlib.Core.Path.{◌≡◌, refl}
use mathlib.Core.List.{List, [], ◌∷◌}
use lib.Dec.{ltb}
use lib.IntN.{ℤ}
use Rattle.board.specs.Parts.{Parts}
use Rattle.board.specs.Handles.{is_handle}
use Rattle.board.specs.Statuses.{number_of, func_not_supported, bad_vendor_id, device_not_found}
use Rattle.call_edition.specs.Edition.{is_draft, is_known, is_bad_vendor}
use Rattle.call_edition.specs.declared.edition.InEdition.{InEdition}
use Rattle.numbers.proofs.Tests.{both_true}
use Rattle.window.specs.Window.{Window}
use Rattle.window.specs.Kept.{unpacked}
use Rattle.window_listing.specs.Listing.{listing, listing_number, listing_values}
use Rattle.search.specs.Search.{searched, found_number, Sought, sought_at}
use Rattle.board.specs.declared.address.BusAddress.{BusAddress}
use Rattle.board.specs.declared.address.CpuAddress.{CpuAddress}
use Rattle.board.specs.declared.status.CallRefusal.{CallRefusal}
use Rattle.std.specs.Prelude.{Result}
use Rattle.interrupt_array.specs.Hooks.{last_line, chain_of}
use Rattle.interrupt_array.specs.declared.hooks.Hook.{Hook}
use Rattle.interrupt_list.specs.Listing.{listed_hook, chain_number_of, chain_values_of}
use Rattle.card_used.specs.declared.used.Mark.{Mark}
use Rattle.call.specs.declared.answer.Answer.{Answer}
use Rattle.call.specs.declared.call.Query.{Query}
use Rattle.call.specs.declared.call.Query.TheVariants.{FindPciDevice, FindPciClasscode, BusToCpu, CpuToBus, ListChain, GetCardUsed, SpecialCycle, GetRouting, SetInterrupt, ListWindow}
use Rattle.call.specs.Answers.{zeros, answer, of_search, of_to_cpu, of_to_bus, of_chain, of_used}
use Rattle.reference.specs.State.{queried}
use Rattle.reference.specs.Claims.{in_editions, Among, query_refusals}
use Rattle.reference.proofs.Tests.{if_test, if_either}
use Rattle.reference.proofs.Refused.{not_refused}

-- what the claim says of a query's answer
abbrev pub Stated : Query → Answer → Type 0
Stated q a = a.refused ≡ true → Among a.number (query_refusals q) × (a.values ≡ zeros)

-- a search that goes through matches refuses exactly where there is no such match
matches_stated : (q : Query) → Among (number_of device_not_found) (query_refusals q) → (hs : List ℕ) (m : ℕ) → Stated q (of_search (found_number (searched hs m)))
unfolding searched
matches_stated q n [] m e = (n, refl)
matches_stated q n (h ∷ hs) zero e = not_refused e
matches_stated q n (h ∷ hs) (suc m) e = matches_stated q n hs m e

-- a number that both known editions have, and that of an unknown one
pub in_known : (named : InEdition) (z : ℤ) (draft later : List ℤ) → is_known named ≡ true → Among z draft → Among z later
    → Among z (in_editions named draft later)
in_known named z draft later k a b = if_either (is_draft named) (λ d. rw d a) (λ d. rw (k, d) b)

pub in_unknown : (named : InEdition) (draft later : List ℤ) → is_known named ≡ false → Among (number_of func_not_supported) (in_editions named draft later)
in_unknown named draft later k =
    if_either (is_draft named) (λ d. absurd (true≢false (rw d at k))) (λ d. rw (k, d) (inl refl))

-- vendor FFFFh is bad in draft 1.9
bad_vendor : (id : InEdition) (later : List ℤ) → is_bad_vendor id ≡ true → Among (number_of bad_vendor_id) (in_editions id ((number_of bad_vendor_id) ∷ (number_of device_not_found) ∷ []) later)
bad_vendor id later v = rw (both_true (is_draft id) _ v).0 (inl refl)

device_stated : (p : Parts) (id : InEdition) (index : ℕ) → Stated (FindPciDevice id index) (queried p (FindPciDevice id index))
unfolding queried sought_at
device_stated p id index =
    let q : Query = FindPciDevice id index in
    let P : Sought → Type 0 = λ s. Stated q (of_search (found_number (sought_at s index))) in
    if_test P (is_known id)
    (λ k.
    if_test P (is_bad_vendor id) (λ v e. (bad_vendor id _ v, refl))
    (λ v. matches_stated q (in_known id _ _ _ k (inr (inl refl)) (inl refl)) _ index))
    (λ k e. (in_unknown id _ _ k, refl))

class_stated : (p : Parts) (class : InEdition) (index : ℕ) → Stated (FindPciClasscode class index) (queried p (FindPciClasscode class index))
unfolding queried sought_at
class_stated p class index =
    let q : Query = FindPciClasscode class index in
    if_test (λ s. Stated q (of_search (found_number (sought_at s index)))) (is_known class)
    (λ k. matches_stated q (in_known class _ _ _ k (inl refl) (inl refl)) _ index)
    (λ k e. (in_unknown class _ _ k, refl))

-- a listing of windows refuses exactly past the end
list_stated : (n : ℕ) (l : List Window) (m : ℕ) → Stated (ListWindow n) (answer (listing_number (listing l m)) (listing_values (listing l m)))
unfolding listing
list_stated n [] m e = (inl refl, refl)
list_stated n (w ∷ l) zero e = not_refused e
list_stated n (w ∷ l) (suc m) e = list_stated n l m e

-- and so does a listing of a chain, of a line that there is
chain_stated : (line index : ℕ) (chain : List Hook) (n : ℕ)
    → Stated (ListChain line index) (of_chain (chain_number_of (listed_hook chain n)) (chain_values_of (listed_hook chain n)))
unfolding listed_hook
chain_stated line index [] n e = (inr (inl refl), refl)
chain_stated line index (h ∷ hs) zero e = not_refused e
chain_stated line index (h ∷ hs) (suc n) e = chain_stated line index hs n e

pub query_stated : (p : Parts) (q : Query) → Stated q (queried p q)
unfolding queried
query_stated p (FindPciDevice id index) = device_stated p id index
query_stated p (FindPciClasscode class index) = class_stated p class index
query_stated p (BusToCpu handle address) =
    if_test (λ (t : Result CpuAddress CallRefusal). Stated (BusToCpu handle address) (of_to_cpu t)) (is_handle p.header handle) (λ g e. not_refused e) (λ g e. (inl refl, refl))
query_stated p (CpuToBus handle address) =
    if_test (λ (t : Result BusAddress CallRefusal). Stated (CpuToBus handle address) (of_to_bus t)) (is_handle p.header handle) (λ g e. not_refused e) (λ g e. (inl refl, refl))
query_stated p (ListChain line index) =
    if_test (λ (l : Result Hook CallRefusal). Stated (ListChain line index) (of_chain (chain_number_of l) (chain_values_of l))) (ltb last_line line)
    (λ t e. (inl refl, refl)) (λ t. chain_stated line index (chain_of p.records p.hooks line) index)
query_stated p (GetCardUsed handle) =
    if_test (λ (u : Result Mark CallRefusal). Stated (GetCardUsed handle) (of_used u)) (is_handle p.header handle) (λ g e. not_refused e) (λ g e. (inl refl, refl))
query_stated p (SpecialCycle bus message) = λ e. (inl refl, refl)
query_stated p (GetRouting handle) = λ e. (inl refl, refl)
query_stated p (SetInterrupt handle mode) = λ e. (inl refl, refl)
query_stated p (ListWindow n) = list_stated n (unpacked p.windows) n
