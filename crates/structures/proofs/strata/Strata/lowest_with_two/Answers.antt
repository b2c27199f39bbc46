use Rattle.std.proofs.Common.{◌≡◌, ℕ, ◌<◌, ◌≤◌, get_or, ◌∙◌, arith, rules}
use Rattle.std.specs.Option.{MatchOption, option_map}
use Rattle.structures.specs.Marks.{marked}
use Rattle.structures.specs.Strata.{stratum_at}
use Rattle.structures.proofs.Tallies.{lowest_told}
use Rattle.terms.specs.declared.numbers.StratumNo.{StratumNo}
use Rattle.structures.proofs.strata.Strata.lowest_with_two.Goals as goal

pub returns : goal.returns
returns g c =
    let self = c.args.self.now in
    let M = g.B.Structure.meaning self.below in
    let t = self.count in
    let counts = c.counts.result in
    let first : MatchOption c.position.result ((k : ℕ) → k < t → get_or counts k 0 < 2)
    (λ u. (u < t) × (2 ≤ get_or counts u 0) × ((k : ℕ) → k < u → get_or counts k 0 < 2)) = search rules in
    let same : option_map (λ (s : StratumNo). s.0) c.map.result ≡ c.position.result = search rules in
    same ∙ lowest_told M (stratum_at self.strata.items) (marked M.units c.args.marks.now) t counts (omega (arith, self.ok.1))
    c.counts.ensures.counts c.position.result first
