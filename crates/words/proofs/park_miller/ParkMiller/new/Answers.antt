use Rattle.std.proofs.Common.{refl, rules}
use Rattle.words.specs.ParkMiller.{seed_out_of_range, seeded}
use Rattle.words.proofs.park_miller.ParkMiller.new.Goals as goal

pub returns-then-seed-eq0 : goal.returns-then-seed-eq0
returns-then-seed-eq0 c = seed_out_of_range (search rules) refl

pub returns : goal.returns
returns c = seeded (search rules) refl (λ i. search rules)
