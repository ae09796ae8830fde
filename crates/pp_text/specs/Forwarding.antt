-- Fields that a proxy does not forward (RFC 2616, sections 13.5.1 and 14.10).
use Rattle.std.specs.Prelude.{ℕ, Bool, ◌||◌, not, List, [], ◌∷◌, filter, codes, nat_eq}
use Rattle.std.specs.List.{list_any, starts_with}
use Rattle.pp_text.specs.Bytes.{is_same, lower}
use Rattle.pp_text.specs.Fields.{Field, is_named, list_items}

-- "Hop-by-hop headers, which are meaningful only for a single transport-level connection": those of
-- section 13.5.1, with Trailer for its misprint Trailers; ours: and the older Proxy-Connection
abbrev pub hop_names : List (List ℕ)
hop_names =
    codes "connection" ∷ codes "keep-alive" ∷ codes "proxy-authenticate" ∷ codes "proxy-authorization" ∷ codes "proxy-connection"
    ∷ codes "te" ∷ codes "trailer" ∷ codes "transfer-encoding" ∷ codes "upgrade" ∷ []

-- "for each connection-token in this field, remove any header field(s) from the message with the same
-- name as the connection-token" (section 14.10)
abbrev pub is_connection_token : List Field → Field → Bool
is_connection_token fields field = list_any (is_same field.0) (list_items (codes "connection") fields)

-- ours: fields that only this proxy and those who run it exchange
abbrev pub is_private : Field → Bool
is_private field = starts_with nat_eq (lower field.0) (codes "x-polipo-")

abbrev pub is_hop_by_hop : List Field → Field → Bool
is_hop_by_hop fields field = list_any (λ name. is_named name field) hop_names || is_connection_token fields field || is_private field

-- the fields that go on, in their order
abbrev pub end_to_end : List Field → List Field
end_to_end fields = filter (λ field. not (is_hop_by_hop fields field)) fields
