-- The definitions of this crate computed on literals, and worked keys.
use Rattle.std.proofs.Common.{◌≡◌, refl, codes, Ok, Err}
use Rattle.std.specs.Prelude.{⊤}
use Rattle.std.specs.Str.{is_utf8, chars}
use lib.Utf8.{encode}
use Rattle.std.specs.Fmt.{digits}
use Rattle.http_uri.proofs.OnLiterals.{http_uri_on_literals}
use Rattle.hex.proofs.OnLiterals.{hex_on_literals}
use Rattle.md5.specs.Md5.{block_words, rounds, compress, hash_after, digest_bytes, md5}
use Rattle.pp_target.specs.declared.target.TargetFault.TheVariants.{NotAbsolute}
use Rattle.pp_target.specs.Absolute.{absolute_at}
use Rattle.pp_target.specs.Key.{key_at, text_of}
use Rattle.pp_target.specs.Name.{name_of}

-- what an answer unfolds to compute this crate's specs on a literal
unfoldable pub pp_target_on_literals : ⊤
unfolding absolute_at http_uri_on_literals is_utf8 chars encode digits name_of hex_on_literals block_words rounds compress hash_after digest_bytes md5
pp_target_on_literals = tt

query_key : key_at (codes "http://Example.COM:80?q=1") ≡ Ok (record { host = codes "example.com"; port = 80; path = codes "/?q=1" })
unfolding pp_target_on_literals
query_key = refl

port_key : key_at (codes "http://h:8080/a/b?c#d") ≡ Ok (record { host = codes "h"; port = 8080; path = codes "/a/b?c" })
unfolding pp_target_on_literals
port_key = refl

port_text : text_of (record { host = codes "h"; port = 8080; path = codes "/" }) ≡ codes "http://h:8080/"
unfolding pp_target_on_literals
port_text = refl

no_key : key_at (codes "/a") ≡ Err NotAbsolute
unfolding pp_target_on_literals
no_key = refl

abc_name : name_of (codes "abc") ≡ codes "900150983cd24fb0d6963f7d28e17f72"
unfolding pp_target_on_literals
abc_name = refl
