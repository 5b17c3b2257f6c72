use Rattle.column_map.proofs.PlaceLaws.{moved-is}
use Rattle.column_map.proofs.TableWords.{table_words-covered}
use Rattle.column_map.proofs.laws.Goals as goal

pub returns : goal.returns
returns c = record { moves = moved-is; words = table_words-covered }
