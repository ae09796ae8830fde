-- Requests whose authentication is that of their connection (RFC 4559, section 6).
use Rattle.std.specs.Prelude.{ℕ, Bool, ◌||◌, List, take, position, Some, None, codes}
use Rattle.std.specs.List.{list_any}
use Rattle.pp_text.specs.Bytes.{is_blank, is_same}
use Rattle.pp_text.specs.Fields.{Field, values_of}

-- credentials = auth-scheme [ 1*SP ( token68 / #auth-param ) ] (RFC 7235, section 2.1)
abbrev pub scheme_of : List ℕ → List ℕ
scheme_of credentials = elim (position is_blank credentials) [ None ↦ credentials | Some at ↦ take at credentials ]

-- "auth-scheme .. case-insensitive token"; ours: NTLM too, which Negotiate stands for
abbrev pub is_of_connection : List ℕ → Bool
is_of_connection credentials = is_same (scheme_of credentials) (codes "ntlm") || is_same (scheme_of credentials) (codes "negotiate")

-- a proxy "must take care to not share authenticated connections between different authenticated clients"
abbrev pub binds_connection : List Field → Bool
binds_connection fields = list_any is_of_connection (values_of (codes "authorization") fields)
