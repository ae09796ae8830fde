-- Worked examples of entries: head blocks, the extents that gates keep, and lengths of files.
use Rattle.std.proofs.Common.{◌≡◌, ℕ, Bool, true, false, List, [], ◌∷◌, ◌++◌, map, replicate, refl, codes, Some}
use Rattle.std.specs.Prelude.{⊤, is_some}
use Rattle.std.specs.Fmt.{digits}
use Rattle.pp_text.specs.Fields.{Field}
use Rattle.pp_head.proofs.OnLiterals.{pp_head_on_literals}
use Rattle.pp_valid.proofs.OnLiterals.{pp_valid_on_literals}
use Rattle.pp_entry.specs.Entries.{Row, row_at}
use Rattle.pp_entry.specs.Gates.{extent_of, has_extent}
use Rattle.pp_entry.specs.Spelling.{as_read, text_of}
use Rattle.pp_entry.specs.Texts.{body_at, fits, head_text, own_lines, padded}

unfoldable on_literals : ⊤
unfolding pp_head_on_literals pp_valid_on_literals digits row_at body_at own_lines head_text
on_literals = tt

field : List ℕ → List ℕ → Field
field name value = (name, value)

-- the response to http://h/a with a body of 5 bytes
a_row : Row
a_row = record {
  key = codes "http://h/a";
  version = record { tag = codes "\"x\""; length = 5 };
  fields = field (codes "ETag") (codes "\"x\"") ∷ field (codes "Date") (codes "Sun, 06 Nov 1994 08:49:37 GMT") ∷ field (codes "CACHE-control") (codes "max-age=60") ∷ [];
  times = record { request = 784111776; response = 784111777; initial = 0; may_guess = true };
}

its_text : List ℕ
its_text = codes "HTTP/1.1 200 OK\r\netag: \"x\"\r\ndate: Sun, 06 Nov 1994 08:49:37 GMT\r\ncache-control: max-age=60\r\nX-Polipo-Location: http://h/a\r\nX-Polipo-Date: 784111777\r\nX-Polipo-Age: 0\r\nX-Polipo-Length: 5\r\nX-Polipo-Body-Offset: 12288\r\n\r\n"

-- it is written with its names in lower case, and read back
written : text_of a_row ≡ its_text
unfolding a_row its_text field on_literals
written = refl

read : row_at (padded its_text) ≡ Some (as_read a_row)
unfolding a_row its_text field on_literals
read = refl

is_entry : List ℕ → List ℕ → Bool
is_entry kept own = is_some (row_at (padded (codes "HTTP/1.1 200 OK\r\n" ++ kept ++ own)))

its_own : List ℕ
its_own = codes "X-Polipo-Location: http://h/a\r\nX-Polipo-Date: 784111777\r\nX-Polipo-Age: 0\r\nX-Polipo-Length: 5\r\nX-Polipo-Body-Offset: 12288\r\n\r\n"

dated : List ℕ → List ℕ
dated kept = kept ++ codes "date: Sun, 06 Nov 1994 08:49:37 GMT\r\n"

-- kept fields have one strong tag and one spelling, and none is of one connection or one message
kept_fields : map (λ kept. is_entry (dated kept) its_own) (
    codes "etag: \"x\"\r\n"
    ∷ codes "a: 1\r\netag: \"x\"\r\na: \r\n"
    ∷ codes ""
    ∷ codes "Etag: \"x\"\r\n"
    ∷ codes "etag:\"x\"\r\n"
    ∷ codes "etag: \"x\" \r\n"
    ∷ codes "etag: \"x\"\n"
    ∷ codes "etag: W/\"x\"\r\n"
    ∷ codes "etag: x\r\n"
    ∷ codes "etag: \"x\"\r\netag: \"x\"\r\n"
    ∷ codes "etag: \"x\"\r\nte: trailers\r\n"
    ∷ codes "etag: \"x\"\r\nx-polipo-a: 1\r\n"
    ∷ codes "etag: \"x\"\r\ncontent-length: 5\r\n"
    ∷ codes "etag: \"x\"\r\ncontent-range: bytes 0-4/5\r\n"
    ∷ codes "age: 1\r\netag: \"x\"\r\n"
    ∷ codes "etag: \"x\"\r\ncontent-md5: Q2hlY2sgSW50ZWdyaXR5IQ==\r\n"
    ∷ codes "content-digest: sha-256=:RBNvo1WzZ4oRRq0W9+hknpT7T8If536DEMBg9hyq/4o=:\r\netag: \"x\"\r\n"
    ∷ codes "etag: \"x\"\r\nrepr-digest: a\r\ndigest: b\r\n"
    ∷ [])
    ≡ true ∷ true ∷ false ∷ false ∷ false ∷ false ∷ false ∷ false ∷ false ∷ false ∷ false ∷ false ∷ false ∷ false ∷ false ∷ false ∷ false ∷ true ∷ []
unfolding is_entry dated its_own on_literals
kept_fields = refl

-- they stand in the order in which they are kept of a response, with the date that it has or was assigned
orders : map (λ kept. is_entry kept its_own) (
    codes "a: 1\r\netag: \"x\"\r\ndate: Sun, 06 Nov 1994 08:49:37 GMT\r\nexpires: 0\r\ncache-control: max-age=60\r\ncache-control: public\r\n"
    ∷ codes "etag: \"x\"\r\ndate: Sunday, 06-Nov-94 08:49:37 GMT\r\nexpires: 0\r\nexpires: 0\r\n"
    ∷ codes "etag: \"x\"\r\ndate: Sun, 06 Nov 1994 08:49:37 GMT\r\ncache-control: max-age=60\r\nexpires: 0\r\n"
    ∷ codes "etag: \"x\"\r\ncache-control: max-age=60\r\ndate: Sun, 06 Nov 1994 08:49:37 GMT\r\n"
    ∷ codes "etag: \"x\"\r\nexpires: 0\r\ndate: Sun, 06 Nov 1994 08:49:37 GMT\r\n"
    ∷ codes "date: Sun, 06 Nov 1994 08:49:37 GMT\r\netag: \"x\"\r\n"
    ∷ codes "etag: \"x\"\r\ndate: Sun, 06 Nov 1994 08:49:37 GMT\r\ndate: Sun, 06 Nov 1994 08:49:37 GMT\r\n"
    ∷ codes "etag: \"x\"\r\ndate: yesterday\r\n"
    ∷ codes "etag: \"x\"\r\n"
    ∷ [])
    ≡ true ∷ true ∷ false ∷ false ∷ false ∷ false ∷ false ∷ false ∷ false ∷ []
unfolding is_entry its_own on_literals
orders = refl

-- a response that came after the year 9999 is assigned none
late : map (λ came. is_entry (codes "etag: \"x\"\r\n") (codes "X-Polipo-Location: http://h/a\r\nX-Polipo-Date: " ++ came ++ codes "\r\nX-Polipo-Age: 0\r\nX-Polipo-Length: 5\r\nX-Polipo-Body-Offset: 12288\r\n\r\n")) (
    codes "253402300799" ∷ codes "253402300800" ∷ []) ≡ false ∷ true ∷ []
unfolding is_entry on_literals
late = refl

-- the lines of this proxy's own have one spelling: a number that fits, a length of 1 to 2^26, and where its body stands
own_lines_of : map (is_entry (dated (codes "etag: \"x\"\r\n"))) (
    its_own
    ∷ codes "X-Polipo-Location: http://h/a\r\nX-Polipo-Date: 1\r\nX-Polipo-Age: 18446744073709551615\r\nX-Polipo-Length: 67108864\r\nX-Polipo-Body-Offset: 24576\r\n\r\n"
    ∷ codes "X-Polipo-Location: http://h/a\r\nX-Polipo-Date: 1\r\nX-Polipo-Age: 18446744073709551616\r\nX-Polipo-Length: 5\r\nX-Polipo-Body-Offset: 12288\r\n\r\n"
    ∷ codes "X-Polipo-Location: http://h/a\r\nX-Polipo-Date: 1\r\nX-Polipo-Age: 0\r\nX-Polipo-Length: 67108865\r\nX-Polipo-Body-Offset: 28672\r\n\r\n"
    ∷ codes "X-Polipo-Location: http://h/a\r\nX-Polipo-Date: 1\r\nX-Polipo-Age: 0\r\nX-Polipo-Length: 0\r\nX-Polipo-Body-Offset: 8192\r\n\r\n"
    ∷ codes "X-Polipo-Location: http://h/a\r\nX-Polipo-Date: 1\r\nX-Polipo-Age: 0\r\nX-Polipo-Length: 5\r\nX-Polipo-Body-Offset: 12287\r\n\r\n"
    ∷ codes "X-Polipo-Location: http://h/a\r\nX-Polipo-Date: 01\r\nX-Polipo-Age: 0\r\nX-Polipo-Length: 5\r\nX-Polipo-Body-Offset: 12288\r\n\r\n"
    ∷ codes "X-Polipo-Location: http://h/a\r\nX-Polipo-Date: 1\r\nX-Polipo-Age: \r\nX-Polipo-Length: 5\r\nX-Polipo-Body-Offset: 12288\r\n\r\n"
    ∷ codes "x-polipo-location: http://h/a\r\nX-Polipo-Date: 1\r\nX-Polipo-Age: 0\r\nX-Polipo-Length: 5\r\nX-Polipo-Body-Offset: 12288\r\n\r\n"
    ∷ codes "X-Polipo-Location: http://h/a\r\nX-Polipo-Age: 0\r\nX-Polipo-Date: 1\r\nX-Polipo-Length: 5\r\nX-Polipo-Body-Offset: 12288\r\n\r\n"
    ∷ codes "X-Polipo-Location: http://h/a\r\nX-Polipo-Date: 1\r\nX-Polipo-Age: 0\r\nX-Polipo-Length: 5\r\nX-Polipo-Body-Offset: 12288\r\n"
    ∷ (its_own ++ 1 ∷ [])
    ∷ codes "X-Polipo-Location: http://h/a\r\n\r\n"
    ∷ codes ""
    ∷ [])
    ≡ true ∷ true ∷ false ∷ false ∷ false ∷ false ∷ false ∷ false ∷ false ∷ false ∷ false ∷ false ∷ false ∷ false ∷ []
unfolding is_entry dated its_own on_literals
own_lines_of = refl

-- a head has 95 kept fields and 8,192 bytes at most
with_fields : ℕ → ℕ → Bool
with_fields count len =
    let fields = field (codes "etag") (codes "\"x\"") ∷ field (codes "b") (replicate len 118) ∷ replicate count (field (codes "a") (codes "1")) in
    fits fields (head_text (codes "http://h/a") 5 fields (record { request = 784111776; response = 784111777; initial = 0; may_guess = true }))

-- without the value of `b` there are 158 bytes
limits : with_fields 93 1 ∷ with_fields 94 1 ∷ with_fields 0 8034 ∷ with_fields 0 8035 ∷ with_fields 0 0 ∷ [] ≡ true ∷ false ∷ true ∷ false ∷ true ∷ []
unfolding with_fields field on_literals
limits = refl

-- chunks count up to the first gate that is not open
extents :
    extent_of (1 ∷ 1 ∷ 7 ∷ 1 ∷ []) 20000 ∷ extent_of (1 ∷ 1 ∷ []) 5000 ∷ extent_of (1 ∷ 0 ∷ []) 5000 ∷ extent_of (0 ∷ 1 ∷ []) 5000 ∷ extent_of (255 ∷ []) 1 ∷ extent_of [] 1 ∷ []
    ≡ 8192 ∷ 5000 ∷ 4096 ∷ 0 ∷ 0 ∷ 0 ∷ []
extents = refl

-- a body of 5 bytes stands at 12,288, and a file of its entry ends with it
lengths :
    has_extent 5 5 12292 ∷ has_extent 5 5 12293 ∷ has_extent 5 5 12294 ∷ has_extent 5 0 12287 ∷ has_extent 5 0 12288 ∷ has_extent 5 0 12293 ∷ has_extent 5 0 12294 ∷ []
    ≡ false ∷ true ∷ false ∷ false ∷ true ∷ true ∷ false ∷ []
unfolding body_at
lengths = refl
