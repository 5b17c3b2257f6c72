-- What is told of a rip without wrong words.
use Rattle.std.proofs.Common.{◌≡◌, refl, eq-eqb}
use Rattle.rip_report.specs.declared.status.Status.TheVariants.{Done}
use Rattle.column_map.specs.declared.candidate.Candidate.{Candidate}
use Rattle.rip_report.specs.Texts.{verified_text}
use Rattle.engine_steps.specs.Outcome.{answered}
use Rattle.cmd_verify.specs.VerifyOutcome.{judged}

-- a rip without wrong words is whole
pub judged_whole : (at : Candidate) → at.errors ≡ 0 → judged at ≡ answered Done (verified_text at)
judged_whole at none = rw (eq-eqb at.errors 0 none) refl
