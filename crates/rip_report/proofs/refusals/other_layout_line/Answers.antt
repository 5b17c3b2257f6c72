use Rattle.std.proofs.Common.{◌≡◌, ◌∙◌, append_assoc, string_bytes}
use Rattle.std.proofs.lemmas.Result.{IfOk-weaker}
use Rattle.rip_report.specs.Texts.{other_layout_line}
use Rattle.disc_toc.specs.declared.difference.LayoutPart.TheVariants.{Pregap, Sectors, Tracks, Start}
use Rattle.rip_report.proofs.refusals.other_layout_line.Goals as goal

pub returns-in-Pregap : goal.returns-in-Pregap
returns-in-Pregap c = rw c.in-Pregap.is (IfOk-weaker c.format.result _ (λ made. string_bytes made ≡ other_layout_line Pregap c.args.differs.rip c.args.differs.kept) (λ made so. so ∙ simp append_assoc) c.format.ensures.ok)

pub returns-in-Sectors : goal.returns-in-Sectors
returns-in-Sectors c = rw c.in-Sectors.is (IfOk-weaker c.format-in-Sectors.result _ (λ made. string_bytes made ≡ other_layout_line Sectors c.args.differs.rip c.args.differs.kept) (λ made so. so ∙ simp append_assoc) c.format-in-Sectors.ensures.ok)

pub returns-in-Tracks : goal.returns-in-Tracks
returns-in-Tracks c = rw c.in-Tracks.is (IfOk-weaker c.format-in-Tracks.result _ (λ made. string_bytes made ≡ other_layout_line Tracks c.args.differs.rip c.args.differs.kept) (λ made so. so ∙ simp append_assoc) c.format-in-Tracks.ensures.ok)

pub returns-in-Start : goal.returns-in-Start
returns-in-Start c = rw c.in-Start.is (IfOk-weaker c.format-in-Start.result _ (λ made. string_bytes made ≡ other_layout_line (Start c.in-Start.track) c.args.differs.rip c.args.differs.kept) (λ made so. so ∙ simp append_assoc) c.format-in-Start.ensures.ok)
