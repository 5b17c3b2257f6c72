use Rattle.std.proofs.Common.{◌≡◌, ◌++◌, true, rules}
use Rattle.std.specs.String.{string_bytes}
use Rattle.rip_outside.specs.Listing.{is_own_name}
use Rattle.real_folder.proofs.ListingLaws.{own_stands}
use Rattle.real_folder.proofs.folder.name_in.Goals as goal

pub returns : goal.returns
returns c =
    let bytes : string_bytes c.push_str.new.self ≡ c.args.folder.now ++ c.args.own.now = search rules in
    let own : is_own_name c.args.own.now ≡ true = search rules in
    rw bytes (own_stands c.args.folder.now c.args.own.now own)
