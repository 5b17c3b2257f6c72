use Rattle.std.proofs.Common.{◌≡◌, ◌∙◌, ◌+◌, ◌++◌, ◌∷◌, [], List, ℕ, ap₂, sym, rules, zero-add}
use Rattle.std.proofs.lemmas.List.FromFn.{map-range_with_len_more}
use Rattle.track_split.specs.Sheets.{track_file}
use Rattle.track_split.proofs.naming.split_names.Goals as goal

pub loop-i-preserved : goal.loop-i-preserved
loop-i-preserved c =
    let folder = c.args.folder.now in
    let k = c.loop-i.i in
    let name_at : ℕ → List ℕ = λ n. folder ++ track_file (n + 1) in
    let items : c.push.new.self.items ≡ c.loop-i.list.items ++ c.in_ok-track_name.field-0 ∷ [] = search rules in
    let named : c.in_ok-track_name.field-0 ≡ name_at k = c.in_ok-track_name.ensures in
    items ∙ ap₂ (λ (a : List (List ℕ)) b. a ++ b ∷ []) c.loop-i.invariant named ∙ sym (map-range_with_len_more name_at 0 k k (zero-add k))
