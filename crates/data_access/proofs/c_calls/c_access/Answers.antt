-- `c_access`: the cells that a known width and edition are for, or the refusal.
use Rattle.std.proofs.Common.{◌≡◌, Some, None, Err, sym, ◌∙◌, rules}
use Rattle.board.specs.FromC.{width_from_c, space_from_c}
use Rattle.board.specs.Spaces.{space_number}
use Rattle.board.specs.declared.status.CallRefusal.TheVariants.{FuncNotSupported}
use Rattle.call_edition.proofs.Named.{named_known, named_unknown}
use Rattle.data_window.specs.Find.{refusal_of}
use Rattle.data_access.proofs.Known.{access_lem, unknown_lem}
use Rattle.data_access.proofs.c_calls.c_access.Goals as goal

pub returns-in_err-bus : goal.returns-in_err-bus
returns-in_err-bus c =
    let a = c.args in
    let m = a.map in
    let none : c.bus_of.result ≡ None = search rules in
    let told : c.from_residual.result ≡ Err FuncNotSupported = search rules in
    told ∙ unknown_lem m.header.now m.records.now m.windows.now m.offsets.now _ a.handle a.address (width_from_c a.width) a.room (named_unknown _ _ (sym c.bus_of.ensures ∙ none))

pub returns-in_err-width : goal.returns-in_err-width
returns-in_err-width c =
    let named : c.bus_of.result ≡ Some c.in_ok-bus.bus = search rules in
    let none : c.width_from_c.result ≡ None = search rules in
    let known = named_known _ _ _ (sym c.bus_of.ensures ∙ named) in
    rw (← c.width_from_c.ensures, none, known.0) (search rules)

pub returns-in_err-target : goal.returns-in_err-target
returns-in_err-target c =
    let a = c.args in
    let m = a.map in
    let named : c.bus_of.result ≡ Some c.in_ok-bus.bus = search rules in
    let one : c.width_from_c.result ≡ Some c.in_ok-width.width = search rules in
    let told : c.from_residual-in_err-target.result ≡ Err (refusal_of c.in_err-target.field-0.0) = search rules in
    let found = rw (c.data_address-at.ensures, c.space_from_c.ensures) at c.find_window-finding.ensures in
    told ∙ rw c.in_err-target.was
    at (access_lem m.header.now m.records.now m.windows.now m.offsets.now (space_number (space_from_c a.io)) a.handle a.address (width_from_c a.width) c.in_ok-width.width c.in_ok-bus.bus
    c.find_window-finding.result c.place_of_handle-function.result c.cell_target_of.result a.room
    (sym c.width_from_c.ensures ∙ one) (sym c.bus_of.ensures ∙ named) found c.place_of_handle-function.ensures c.cell_target_of.ensures)

pub returns : goal.returns
returns c =
    let a = c.args in
    let m = a.map in
    let named : c.bus_of.result ≡ Some c.in_ok-bus.bus = search rules in
    let one : c.width_from_c.result ≡ Some c.in_ok-width.width = search rules in
    let found = rw (c.data_address-at.ensures, c.space_from_c.ensures) at c.find_window-finding.ensures in
    rw c.in_ok-target.was
    at (access_lem m.header.now m.records.now m.windows.now m.offsets.now (space_number (space_from_c a.io)) a.handle a.address (width_from_c a.width) c.in_ok-width.width c.in_ok-bus.bus
    c.find_window-finding.result c.place_of_handle-function.result c.cell_target_of.result a.room
    (sym c.width_from_c.ensures ∙ one) (sym c.bus_of.ensures ∙ named) found c.place_of_handle-function.ensures c.cell_target_of.ensures)
