use Rattle.disc_toc.specs.Toc.{toc_of}
use Rattle.disc_ids.specs.Texts.{store_key_text}
use Rattle.parity_store.proofs.NamingLaws.{IsUtf8-id}
use Rattle.store_upkeep.proofs.looking.see_name.Goals as goal

pub stored_name-requires : goal.stored_name-requires
stored_name-requires c = IsUtf8-id c.in_ok-key.key.0 (store_key_text (toc_of c.args.rec.layout)) c.in_ok-key.ensures

pub returns-else-eq-clause-key : goal.returns-else-eq-clause-key
returns-else-eq-clause-key c = IsUtf8-id c.in_ok-key.key.0 (store_key_text (toc_of c.args.rec.layout)) c.in_ok-key.ensures
