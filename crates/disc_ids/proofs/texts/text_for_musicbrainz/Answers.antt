use Rattle.std.proofs.Common.{◌+◌, ◌++◌, length, ap, ap₂, ◌∙◌}
use Rattle.disc_toc.specs.Toc.{toc_of}
use Rattle.disc_ids.specs.Texts.{hex_digits, musicbrainz_text, track_fields}
use Rattle.disc_ids.proofs.texts.text_for_musicbrainz.Goals as goal

pub returns : goal.returns
unfolding musicbrainz_text
returns c =
    c.in_ok-add_fields.ensures
    ∙ ap (λ text. text ++ track_fields (toc_of c.args.layout.now) 99)
    (c.in_ok-add_hex-3.ensures
    ∙ ap₂ (λ text end. text ++ hex_digits 8 (end + 150))
    (c.in_ok-add_hex-2.ensures
    ∙ ap₂ (λ text tracks. text ++ hex_digits 2 tracks)
    (c.in_ok-add_hex.ensures ∙ ap (λ text. text ++ hex_digits 2 1) c.new-text.ensures.items)
    (ap length c.as_slice.ensures))
    c.lead.ensures.place)
