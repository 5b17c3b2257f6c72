-- The digests of texts, as ids write them.
use Rattle.std.specs.Prelude.{ℕ, ◌==◌, if◌then◌else◌, List, map}
use Rattle.base64.specs.Engines.{standard}
use Rattle.base64.specs.GeneralPurpose.{encode_of}
use Rattle.sha1.specs.Sha1.{sha1}

-- a character of base64, where `.` stands for `+`, `_` for `/` and `-` for `=`
abbrev pub spelled : ℕ → ℕ
spelled c = if c == 43 then 46 else if c == 47 then 95 else if c == 61 then 45 else c

-- the SHA-1 of a text in base64, so spelled
unfoldable pub id_of : List ℕ → List ℕ
id_of text = map spelled (encode_of standard (sha1 text))
