use Rattle.std.proofs.Common.{Ok}
use Rattle.vet_entries.specs.declared.kind.Kind.TheVariants as kind
use Rattle.vet_item_rows.proofs.KindsRead.{found_delta, found_exemption, found_full, found_trusted, kind_number}
use Rattle.vet_item_rows.proofs.KindsRead.{found_violation, found_wildcard, said_number, window_found}
use Rattle.vet_item_rows.proofs.read.kinds.kind_of.Goals as goal

pub returns-in_err-number : goal.returns-in_err-number
returns-in_err-number c k plain says =
    cc (c.in_err-number.ensures (kind_number k) (said_number c.args.cells.now k says))

pub returns-then-number-eq0 : goal.returns-then-number-eq0
returns-then-number-eq0 c =
    found_full c.args.cells.now c.full.result c.in_ok-number.number (λ n e. cc (c.in_ok-number.ensures n e))
    c.if-number-eq0.true c.full.ensures

pub returns-then-number-eq1 : goal.returns-then-number-eq1
returns-then-number-eq1 c =
    found_delta c.args.cells.now c.delta.result c.in_ok-number.number (λ n e. cc (c.in_ok-number.ensures n e))
    c.if-number-eq1.true c.delta.ensures

pub returns-then-number-eq2 : goal.returns-then-number-eq2
returns-then-number-eq2 c =
    found_violation c.args.cells.now c.violation.result c.in_ok-number.number (λ n e. cc (c.in_ok-number.ensures n e))
    c.if-number-eq2.true c.violation.ensures

pub returns-then-number-eq3 : goal.returns-then-number-eq3
returns-then-number-eq3 c =
    found_wildcard c.args.cells.now c.wildcard.result c.in_ok-number.number (λ n e. cc (c.in_ok-number.ensures n e))
    c.if-number-eq3.true c.wildcard.ensures

pub returns-then-number-eq5 : goal.returns-then-number-eq5
returns-then-number-eq5 c =
    found_exemption c.args.cells.now c.exemption.result c.in_ok-number.number (λ n e. cc (c.in_ok-number.ensures n e))
    c.if-number-eq5.true c.exemption.ensures

pub returns-in_err-window : goal.returns-in_err-window
returns-in_err-window c =
    let result = c.from_residual-in_err-window.result in
    found_trusted c.args.cells.now result c.in_ok-number.number (λ n e. cc (c.in_ok-number.ensures n e))
    c.if-number-eq4.true
    (window_found c.args.cells.now result (λ w is user first last. cc (c.in_err-window.ensures w is user first last)))

pub returns-then-number-eq4 : goal.returns-then-number-eq4
returns-then-number-eq4 c =
    found_trusted c.args.cells.now (Ok (kind.Trusted c.in_ok-window.field-0)) c.in_ok-number.number
    (λ n e. cc (c.in_ok-number.ensures n e)) c.if-number-eq4.true
    (window_found c.args.cells.now (Ok (kind.Trusted c.in_ok-window.field-0)) (λ w is user first last.
    cc (c.in_ok-window.ensures w is user first last)))
