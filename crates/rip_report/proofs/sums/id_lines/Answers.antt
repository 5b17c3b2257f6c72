use Rattle.disc_toc.specs.Toc.{toc_of}
use Rattle.disc_ids.specs.Texts.{musicbrainz_text, store_key_text}
use Rattle.parity_store.proofs.NamingLaws.{IsUtf8-id}
use Rattle.rip_report.proofs.sums.id_lines.Goals as goal

pub id_text-requires : goal.id_text-requires
id_text-requires c = IsUtf8-id c.in-Ok.musicbrainz.0 (musicbrainz_text (toc_of c.args.layout.now)) c.in-Ok.ensures

pub id_text-requires-2 : goal.id_text-requires-2
id_text-requires-2 c = IsUtf8-id c.in-Ok-store_key.key.0 (store_key_text (toc_of c.args.layout.now)) c.in-Ok-store_key.ensures
