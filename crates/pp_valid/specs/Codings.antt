-- Content codings (RFC 2616, sections 3.5, 14.3 and 14.11).
use Rattle.std.specs.Prelude.{ℕ, Bool, not, List, codes}
use Rattle.std.specs.List.{list_all}
use Rattle.pp_text.specs.Bytes.{is_same}
use Rattle.pp_text.specs.Fields.{Field, list_items}

-- "identity: The default (identity) encoding; the use of no transformation whatsoever."
abbrev pub is_identity : List ℕ → Bool
is_identity coding = is_same (codes "identity") coding

-- Content-Encoding = "Content-Encoding" ":" 1#content-coding
abbrev pub is_coded : List Field → Bool
is_coded fields = not (list_all is_identity (list_items (codes "content-encoding") fields))

-- Accept-Encoding = "Accept-Encoding" ":" 1#( codings [ ";" "q" "=" qvalue ] ): there is none, or it names identity alone,
-- without a quality; what is coded all the same is coded for everybody
abbrev pub accepts_only_identity : List Field → Bool
accepts_only_identity request = list_all is_identity (list_items (codes "accept-encoding") request)
