-- Each way out is one case of `Stratified`.
use Rattle.std.proofs.Common.{ℕ, ◌*◌, ◌<◌, ◌≤◌, List, length, sym, refl, ap, ◌∙◌, subst, inl, inr, arith, rules}
use Rattle.std.proofs.lemmas.List.{get_or_past}
use Rattle.std.proofs.lemmas.Result.{err_from_is_err_and}
use Rattle.std.proofs.lemmas.Bool.{cases_lt}
use Rattle.terms.specs.declared.numbers.StratumNo.{StratumNo}
use Rattle.structures.specs.Strata.{stratum_at, InStrata, Stratified}
use Rattle.structures.proofs.strata.Strata.fill.Given.{Over}
use Rattle.structures.proofs.strata.Strata.fill.Goals as goal
use Rattle.structures.proofs.strata.Strata.fill.Goals.{In_default, then-count-eq0-via-then-count-eq0, then-count-eq0-via-else-count-eq0+then-count-gt-MAX_STRATA, then-count-eq0-via-else-count-eq0+else-count-gt-MAX_STRATA+then-strata-units}

-- a unit that the list does not have is in stratum 0
in_strata : (t : ℕ) (strata : List StratumNo) → 1 ≤ t → t ≤ 64 → ((i : ℕ) → i < length strata → stratum_at strata i < t) → InStrata t strata
in_strata t strata some few known = (
  some,
  few,
  λ i. elim (cases_lt i (length strata)) [
    | inl l ↦ known i l
    | inr l ↦ omega (arith, ap (λ (s : StratumNo). s.0) (get_or_past strata i (record { 0 = 0 }) l))
  ],
)

-- past the search the numbers are strata
known : (g : Over) (c : In_default g) → InStrata c.args.count c.args.strata.now
known g c =
    let below : (i : ℕ) → i < length c.args.strata.now → stratum_at c.args.strata.now i < c.args.count = search rules in
    in_strata c.args.count c.args.strata.now (omega (arith, c.if-count-eq0.false)) c.if-count-gt-MAX_STRATA.false below

pub returns-then-count-eq0-clause-filled : goal.returns-then-count-eq0-clause-filled
returns-then-count-eq0-clause-filled g c = Stratified.strata_out_of_range (elim c.then-count-eq0.branch [
  | then-count-eq0-via-then-count-eq0 w ↦ inl (inl w.if-count-eq0.true)
  | then-count-eq0-via-else-count-eq0+then-count-gt-MAX_STRATA w ↦ inl (inr w.if-count-gt-MAX_STRATA.true)
  | then-count-eq0-via-else-count-eq0+else-count-gt-MAX_STRATA+then-strata-units w ↦
      inr (λ e. w.if-strata-units.true (e ∙ sym w.units.ensures))
]) refl

pub returns-in-Some-clause-filled : goal.returns-in-Some-clause-filled
returns-in-Some-clause-filled g c =
    let i = c.in-Some.unit in
    let within : i < length c.args.strata.now = search rules in
    let before : (k : ℕ) → k < i → stratum_at c.args.strata.now k < c.args.count = search rules in
    let here : c.args.count ≤ stratum_at c.args.strata.now i = search rules in
    Stratified.stratum_too_high (omega (arith, c.if-count-eq0.false)) c.if-count-gt-MAX_STRATA.false (c.if-strata-units.false ∙ c.units.ensures)
    within before here refl

pub returns-then-count-width-gt-MAX_RANGES-clause-filled : goal.returns-then-count-width-gt-MAX_RANGES-clause-filled
returns-then-count-width-gt-MAX_RANGES-clause-filled g c =
    Stratified.too_many_ranges (c.if-strata-units.false ∙ c.units.ensures) (known g (goal.at.returns-then-count-width-gt-MAX_RANGES-clause-filled g c).In_default)
    (omega (arith, ap (λ w. c.args.count * w) c.width.ensures, c.if-count-width-gt-MAX_RANGES.true)) refl

pub returns-in_err-numbers-clause-filled : goal.returns-in_err-numbers-clause-filled
returns-in_err-numbers-clause-filled g c =
    let p = err_from_is_err_and c.from_residual.result c.from_residual.ensures.1 in
    rw (p.1, p.2) (Stratified.no_memory (c.if-strata-units.false ∙ c.units.ensures) (known g (goal.at.returns-in_err-numbers-clause-filled g c).In_default)
    (omega (arith, ap (λ w. c.args.count * w) c.width.ensures, c.if-count-width-gt-MAX_RANGES.false)) c.in_err-numbers.ensures.1)

pub invariant_of-self : goal.invariant_of-self
invariant_of-self g c = record { ok = subst (InStrata c.args.count) (sym c.in_ok-numbers.ensures) (known g (goal.at.invariant_of-self g c).In_default) }

pub returns-clause-filled : goal.returns-clause-filled
returns-clause-filled g c =
    Stratified.stratified (c.if-strata-units.false ∙ c.units.ensures) (known g (goal.at.returns-clause-filled g c).In_default)
    (omega (arith, ap (λ w. c.args.count * w) c.width.ensures, c.if-count-width-gt-MAX_RANGES.false)) refl c.in_ok-numbers.ensures
