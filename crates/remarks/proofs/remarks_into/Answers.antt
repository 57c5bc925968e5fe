use Rattle.std.proofs.Common.{◌∙◌, sym, ap, arith, refl, Some, eq-eqb, ne_eqb}
use Rattle.items.specs.Laws.Language.{language-short}
use Rattle.remarks.specs.Code.Held.{next_step}
use Rattle.remarks.specs.declared.Remarks.{Remarks}
use Rattle.remarks.proofs.Steps.{above_items, begun, nothing-left, line-inside, ended, not_ended, language-found, no_items, items-found}
use Rattle.remarks.proofs.remarks_into.Goals as goal

pub lines-init : goal.lines-init
lines-init c = (begun c.args.m.now, ap (λ (r : Remarks). r.language) c.requires)

pub overflow_add-line : goal.overflow_add-line
overflow_add-line c = omega (arith, (line-inside c.lines.invariant.0 c.first_line-first.ensures).0)

pub slice_bounds-line-end : goal.slice_bounds-line-end
slice_bounds-line-end c = omega (arith, (line-inside c.lines.invariant.0 c.first_line-first.ensures).0)

pub overflow_add-next : goal.overflow_add-next
overflow_add-next c = omega (arith, (line-inside c.lines.invariant.0 c.first_line-first.ensures).1)

pub keep_language-requires-clause-short : goal.keep_language-requires-clause-short
keep_language-requires-clause-short c = language-short _ (sym c.if-not-valid_language.ensures)

pub lines-preserved : goal.lines-preserved
unfolding next_step
lines-preserved c =
    let s = c.lines.invariant.0 in
    let f = c.first_line-first.ensures in
    let none = ap (λ b. above_items b c.lines.read.items) c.if-below.false in
    let found = items-found s f c.line_text-text.ensures c.if-is_closed.ensures none c.in-Some.ensures.0 refl in
    (record { within = (line-inside s f).1; items = Some found.0; keeps = ap Some found.1; says = found.2 }, c.lines.invariant.1)

pub returns-then-not-is_closed : goal.returns-then-not-is_closed
returns-then-not-is_closed c =
    let some = ap (λ b. above_items b c.lines.read.items) c.if-below.true in
    let found = language-found c.lines.invariant.0 c.first_line-first.ensures c.line_text-text.ensures c.if-not-is_closed.ensures some refl in
    rw c.at.ensures (record { within = omega arith; says = sym found.2 ∙ nothing-left c.args.m.now })

pub returns-then-not-valid_language : goal.returns-then-not-valid_language
returns-then-not-valid_language c =
    let s = c.lines.invariant.0 in
    let some = ap (λ b. above_items b c.lines.read.items) c.if-below.true in
    let found = language-found s c.first_line-first.ensures c.line_text-text.ensures c.if-not-is_closed.ensures some c.if-not-valid_language.ensures in
    rw c.at-then-not-valid_language.ensures (record { within = s.within; says = sym found.2 })

pub returns-then-next-m : goal.returns-then-next-m
returns-then-next-m c =
    let s = c.lines.invariant.0 in
    let f = c.first_line-first.ensures in
    let some = ap (λ b. above_items b c.lines.read.items) c.if-below.true in
    let found = language-found s f c.line_text-text.ensures c.if-not-is_closed.ensures some c.if-not-valid_language.ensures in
    rw c.at-then-next-m.ensures (record { within = (line-inside s f).1; says = sym found.2 ∙ not_ended s f _ c.if-next-m.true })

pub returns-else-next-m : goal.returns-else-next-m
returns-else-next-m c =
    let s = c.lines.invariant.0 in
    let f = c.first_line-first.ensures in
    let some = ap (λ b. above_items b c.lines.read.items) c.if-below.true in
    let found = language-found s f c.line_text-text.ensures c.if-not-is_closed.ensures some c.if-not-valid_language.ensures in
    record { said = _; says = sym found.2 ∙ ended s f _ c.if-next-m.false; keeps = λ i. record { items = found.1 i; language = c.keep_language.ensures i } }

pub returns-in_default : goal.returns-in_default
returns-in_default c =
    let s = c.lines.invariant.0 in
    let none = ap (λ b. above_items b c.lines.read.items) c.if-below.false in
    rw c.at-in_default.ensures
    (record { within = s.within; says = sym (no_items s c.first_line-first.ensures c.line_text-text.ensures refl none c.in_default.ensures.0) })

pub returns-then-read-eq0 : goal.returns-then-read-eq0
returns-then-read-eq0 c =
    let s = c.lines.invariant.0 in
    let none = ap (λ b. above_items b c.lines.read.items) c.if-below.false in
    let found = items-found s c.first_line-first.ensures c.line_text-text.ensures c.if-is_closed.ensures none c.in-Some.ensures.0 (sym (eq-eqb _ _ c.if-read-eq0.true)) in
    rw c.at-then-read-eq0.ensures (record { within = s.within; says = sym found.2 })

pub returns-then-next-m-2 : goal.returns-then-next-m-2
returns-then-next-m-2 c =
    let s = c.lines.invariant.0 in
    let f = c.first_line-first.ensures in
    let none = ap (λ b. above_items b c.lines.read.items) c.if-below.false in
    let found = items-found s f c.line_text-text.ensures c.if-is_closed.ensures none c.in-Some.ensures.0 (sym (ne_eqb _ _ c.if-read-eq0.false)) in
    rw c.at-then-next-m-2.ensures (record { within = (line-inside s f).1; says = sym found.2 ∙ not_ended s f _ c.if-next-m-2.true })

pub returns-else-next-m-2 : goal.returns-else-next-m-2
returns-else-next-m-2 c =
    let s = c.lines.invariant.0 in
    let f = c.first_line-first.ensures in
    let none = ap (λ b. above_items b c.lines.read.items) c.if-below.false in
    let found = items-found s f c.line_text-text.ensures c.if-is_closed.ensures none c.in-Some.ensures.0 (sym (ne_eqb _ _ c.if-read-eq0.false)) in
    record {
      said = _;
      says = sym found.2 ∙ ended s f _ c.if-next-m-2.false;
      keeps = λ i. record { items = found.1 i; language = c.lines.invariant.1 i };
    }
