-- Whether several names are free, name by name.
use Rattle.std.proofs.Common.{◌≡◌, ◌∙◌, ℕ, ◌+◌, ◌<◌, ◌≤◌, List, [], ◌∷◌, ◌++◌, length, map, drop, take, get_or, Bool, true, false, cond, Option, None, Some, IfSome, Result, Ok, Err, refl, sym, ap, subst, arith}
use Rattle.std.specs.Prelude.{All, IfOk, is_some}
use Rattle.std.specs.List.{find, list_any}
use Rattle.std.specs.Str.{bytes_eq}
use Rattle.std.specs.FinMap.{get}
use Rattle.std.proofs.lemmas.List.{drop_more, get_or-map, get_or_read, length-map, take_more}
use Rattle.std.proofs.lemmas.List.Elements.{All-cons, All-nil, All-push}
use Rattle.std.proofs.Math.ListN.{drop_of_length-le}
use Rattle.rip_outside.specs.Files.{Files}
use Rattle.rip_outside.specs.Outputs.{part_of}
use Rattle.rip_report.specs.declared.status.Status.TheVariants.{OutExists}
use Rattle.engine_steps.specs.Steps.{Does, and_then, first_taken, free, freed, part_read}
use Rattle.engine_steps.specs.declared.steps.Stop.{Stop}
use Rattle.engine_outputs.specs.Writing.{none_held, none_read}

-- one name, and then the others
pub held_cons : (out : List ℕ) (outs : List (List ℕ)) (files : Files) → none_held (out ∷ outs) files ≡ and_then (freed false out files) (λ _. none_held outs files)
held_cons out outs files = by (is_some (get files out))
  where
    by : (held : Bool) → first_taken (cond held (Some out) (find (λ o. is_some (get files o)) outs)) None ≡ and_then {A = Unit {0}} {B = Unit {0}} (cond held (Err (OutExists out)) (Ok tt)) (λ _. first_taken (find (λ o. is_some (get files o)) outs) None)
    by true = refl
    by false = refl

pub held_next : (outs : List (List ℕ)) (i : ℕ) (files : Files) → i < length outs → none_held (drop i outs) files ≡ and_then (freed false (get_or outs i []) files) (λ _. none_held (drop (i + 1) outs) files)
held_next outs i files below = ap (λ names. none_held names files) (drop_more outs i [] below) ∙ held_cons (get_or outs i []) (drop (i + 1) outs) files

pub held_end : (outs : List (List ℕ)) (i : ℕ) (files : Files) → length outs ≤ i → none_held (drop i outs) files ≡ Ok tt
held_end outs i files end = ap (λ names. none_held names files) (drop_of_length-le outs end)

pub read_cons : (out : List ℕ) (outs read : List (List ℕ)) → none_read (out ∷ outs) read ≡ cond (list_any (bytes_eq (part_of out)) read) (Err (OutExists (part_of out))) (none_read outs read)
read_cons out outs read = by (list_any (bytes_eq (part_of out)) read)
  where
    by : (among : Bool) → first_taken None (cond among (Some out) (part_read outs read)) ≡ cond among (Err (OutExists (part_of out))) (first_taken None (part_read outs read))
    by true = refl
    by false = refl

-- both tests
pub both_free : (outs read : List (List ℕ)) (files : Files) → free outs read files ≡ and_then (none_held outs files) (λ _. none_read outs read)
both_free outs read files = by (find (λ out. is_some (get files out)) outs)
  where
    by : (held : Option (List ℕ)) → first_taken held (part_read outs read) ≡ and_then {A = Unit {0}} {B = Unit {0}} (first_taken held None) (λ _. first_taken None (part_read outs read))
    by None = refl
    by (Some out) = refl

-- where none is held, each isn't
pub each_unheld : (outs : List (List ℕ)) (files : Files) → none_held outs files ≡ Ok tt → All (λ out. get files out ≡ None) outs
each_unheld [] files none = All-nil (λ out. get files out ≡ None)
each_unheld (out ∷ outs) files none = by (get files out) refl (sym (held_cons out outs files) ∙ none) (each_unheld outs files)
  where
    by : (held : Option (List ℕ)) → get files out ≡ held → and_then {A = Unit {0}} {B = Unit {0}} (cond (is_some held) (Err (OutExists out)) (Ok tt)) (λ _. none_held outs files) ≡ Ok tt
        → (none_held outs files ≡ Ok tt → All (λ out. get files out ≡ None) outs) → All (λ out. get files out ≡ None) (out ∷ outs)
    by None is rest later = All-cons (λ out. get files out ≡ None) out outs is (later rest)
    by (Some bytes) is rest later = let no : ⊥ = cc in absurd no

-- ---- as the calls tell it

pub unheld_next : (h : Option Files) (outs : List (List ℕ)) (i : ℕ) (out : List ℕ) (r : Result (Unit {0}) Stop) (x : Unit {0}) → i < length outs → out ≡ get_or outs i [] → r ≡ Ok x
    → IfSome h (λ files. none_held outs files ≡ none_held (drop i outs) files) → IfSome h (λ files. Does (λ _. tt) r (freed false out files))
    → IfSome h (λ files. none_held outs files ≡ none_held (drop (i + 1) outs) files)
unheld_next None outs i out r x below is went so_far does = tt
unheld_next (Some files) outs i out r x below is went so_far does =
    let here : freed false out files ≡ Ok tt = rw went at does in
    let same : freed false (get_or outs i []) files ≡ Ok tt = rw is at here in
    so_far ∙ held_next outs i files below ∙ ap (λ r. and_then {A = Unit {0}} {B = Unit {0}} r (λ _. none_held (drop (i + 1) outs) files)) same

part_at : (outs parts : List (List ℕ)) (i : ℕ) (part : List ℕ) → parts ≡ map part_of outs → i < length parts → part ≡ get_or parts i part → part ≡ part_of (get_or outs i [])
part_at outs parts i part are below is =
    let size : length parts ≡ length outs = ap length are ∙ length-map outs part_of in
    get_or_read parts i part below is [] ∙ ap (λ xs. get_or xs i []) are ∙ get_or-map part_of outs i [] [] (omega arith)

unread_here : (outs parts read : List (List ℕ)) (i : ℕ) (part : List ℕ) (among : Bool) → parts ≡ map part_of outs → i < length parts → part ≡ get_or parts i part → list_any (bytes_eq part) read ≡ among
    → none_read (drop i outs) read ≡ cond among (Err (OutExists part)) (none_read (drop (i + 1) outs) read)
unread_here outs parts read i part among are below is any =
    let size : length parts ≡ length outs = ap length are ∙ length-map outs part_of in
    let own : part ≡ part_of (get_or outs i []) = part_at outs parts i part are below is in
    let test : list_any (bytes_eq (part_of (get_or outs i []))) read ≡ among = rw own at any in
    ap (λ names. none_read names read) (drop_more outs i [] (omega arith)) ∙ read_cons (get_or outs i []) (drop (i + 1) outs) read
    ∙ ap (λ b. cond b (Err (OutExists (part_of (get_or outs i [])))) (none_read (drop (i + 1) outs) read)) test
    ∙ ap (λ p. cond among (Err (OutExists p)) (none_read (drop (i + 1) outs) read)) (sym own)

pub unread_stopped : (outs parts read : List (List ℕ)) (i : ℕ) (part name : List ℕ) → parts ≡ map part_of outs → i < length parts → part ≡ get_or parts i part → list_any (bytes_eq part) read ≡ true → name ≡ part
    → none_read outs read ≡ none_read (drop i outs) read → none_read outs read ≡ Err (OutExists name)
unread_stopped outs parts read i part name are below is any named so_far =
    so_far ∙ unread_here outs parts read i part true are below is any ∙ ap (λ p. Err (OutExists p)) (sym named)

pub unread_next : (outs parts read : List (List ℕ)) (i : ℕ) (part : List ℕ) → parts ≡ map part_of outs → i < length parts → part ≡ get_or parts i part → list_any (bytes_eq part) read ≡ false
    → none_read outs read ≡ none_read (drop i outs) read → none_read outs read ≡ none_read (drop (i + 1) outs) read
unread_next outs parts read i part are below is any so_far = so_far ∙ unread_here outs parts read i part false are below is any

pub unread_more : (parts read : List (List ℕ)) (i : ℕ) (part : List ℕ) → i < length parts → part ≡ get_or parts i part → list_any (bytes_eq part) read ≡ false
    → All (λ p. list_any (bytes_eq p) read ≡ false) (take i parts) → All (λ p. list_any (bytes_eq p) read ≡ false) (take (i + 1) parts)
unread_more parts read i part below is any so_far =
    let grown : take (i + 1) parts ≡ take i parts ++ part ∷ [] = take_more parts i part below ∙ ap (λ p. take i parts ++ p ∷ []) (sym is) in
    subst (λ (ps : List (List ℕ)). All (λ p. list_any (bytes_eq p) read ≡ false) ps) (sym grown) (All-push (λ p. list_any (bytes_eq p) read ≡ false) (take i parts) part so_far any)

pub if_ok_any : {T : Type 0} (r : Result T Stop) (P : Type 0) → P → IfOk r (λ _. P)
if_ok_any (Ok x) P p = p
if_ok_any (Err e) P p = tt
