-- Worked targets and names (RFC 2616, sections 3.2.2, 3.2.3 and 5.1.2; RFC 1321, appendix A.5).
use Rattle.std.proofs.Common.{refl, ℕ, List, [], ◌∷◌, ◌++◌, length, codes, replicate, Result, Ok, Err}
use Rattle.pp_text.proofs.Table.{Rows}
use Rattle.pp_target.proofs.OnLiterals.{pp_target_on_literals}
use Rattle.pp_target.specs.Key.{Key, key_at, place_of, text_of}
use Rattle.pp_target.specs.Name.{name_of}
use Rattle.pp_target.specs.declared.target.Place.{Place}
use Rattle.pp_target.specs.declared.target.TargetFault.{TargetFault}
use Rattle.pp_target.specs.declared.target.TargetFault.TheVariants.{NotAbsolute, NotHttp, BadHost, BadPort, TooLong}

-- the text of a key, and where its parts stand
abbrev spelled : Result Key TargetFault → Result (List ℕ × Place) TargetFault
spelled (Ok key) = Ok (text_of key, place_of key)
spelled (Err fault) = Err fault

abbrev at : List ℕ → ℕ → ℕ → ℕ → Result (List ℕ × Place) TargetFault
at text host_end port path = Ok (text, record { host = (7, host_end); port = port; path = path })

a_target_has_the_key_of_its_url : Rows (λ (t : List ℕ). spelled (key_at t)) (
    (codes "http://Example.COM:80?q=1", at (codes "http://example.com/?q=1") 18 80 18)
    ∷ (codes "HTTP://h/A", at (codes "http://h/A") 8 80 8)
    ∷ (codes "http://h", at (codes "http://h/") 8 80 8)
    ∷ (codes "http://h:/a", at (codes "http://h/a") 8 80 8)
    ∷ (codes "http://h:080/", at (codes "http://h/") 8 80 8)
    ∷ (codes "http://h/a?b#c?d", at (codes "http://h/a?b") 8 80 8)
    ∷ (codes "http://h?b#c", at (codes "http://h/?b") 8 80 8)
    ∷ (codes "http://h#c", at (codes "http://h/") 8 80 8)
    ∷ (codes "http://h//A/../b", at (codes "http://h//A/../b") 8 80 8)
    ∷ (codes "http://h:1/", at (codes "http://h:1/") 8 1 10)
    ∷ (codes "http://H:65535?q", at (codes "http://h:65535/?q") 8 65535 14)
    ∷ (codes "http://127.0.0.1:8123/a", at (codes "http://127.0.0.1:8123/a") 16 8123 21)
    ∷ [])
unfolding pp_target_on_literals
a_target_has_the_key_of_its_url = refl

a_target_without_a_key_gets_its_first_fault : Rows key_at (
    (codes "", Err NotAbsolute)
    ∷ (codes "*", Err NotAbsolute)
    ∷ (codes "/a", Err NotAbsolute)
    ∷ (codes "h:80", Err NotAbsolute)
    ∷ (codes "http:///a", Err NotAbsolute)
    ∷ (codes "http://h/a b", Err NotAbsolute)
    ∷ (codes "http://h:1:2/", Err NotAbsolute)
    ∷ (codes "https://h/", Err NotHttp)
    ∷ (codes "ftp://u@h:0/", Err NotHttp)
    ∷ (codes "http://u@h/", Err BadHost)
    ∷ (codes "http://u:p@h:0/", Err BadHost)
    ∷ (codes "http://[::1]/", Err BadHost)
    ∷ (codes "http://:80/", Err BadHost)
    ∷ (codes "http://h:0/", Err BadPort)
    ∷ (codes "http://h:65536/", Err BadPort)
    ∷ (codes "http://h:8x/", Err BadPort)
    ∷ (codes "http://h:18446744073709551696/", Err BadPort)
    ∷ [])
unfolding pp_target_on_literals
a_target_without_a_key_gets_its_first_fault = refl

abbrev sized : Result Key TargetFault → Result ℕ TargetFault
sized (Ok key) = Ok (length (text_of key))
sized (Err fault) = Err fault

-- a text, then `a` so many times, and a text
abbrev filled : List ℕ × ℕ × List ℕ → List ℕ
filled t = t.0 ++ (replicate t.1 97 ++ t.2)

a_host_has_255_bytes_at_most : Rows (λ (t : List ℕ × ℕ × List ℕ). sized (key_at (filled t))) (
    ((codes "http://", 255, codes "/"), Ok 263)
    ∷ ((codes "http://", 256, codes "/"), Err BadHost)
    ∷ [])
unfolding pp_target_on_literals
a_host_has_255_bytes_at_most = refl

a_file_is_named_by_the_digest_of_its_key : Rows name_of (
    (codes "", codes "d41d8cd98f00b204e9800998ecf8427e")
    ∷ (codes "a", codes "0cc175b9c0f1b6a831c399e269772661")
    ∷ (codes "abc", codes "900150983cd24fb0d6963f7d28e17f72")
    ∷ (codes "message digest", codes "f96b697d7cb7938d525a2f31aaf161d0")
    ∷ [])
unfolding pp_target_on_literals
a_file_is_named_by_the_digest_of_its_key = refl

a_key_has_8192_bytes_at_most : Rows (λ (t : List ℕ × ℕ × List ℕ). sized (key_at (filled t))) (
    ((codes "http://h/", 8183, codes ""), Ok 8192)
    ∷ ((codes "http://h/", 8184, codes ""), Err TooLong)
    ∷ ((codes "http://h:80/", 8183, codes "#b"), Ok 8192)
    ∷ [])
unfolding pp_target_on_literals
a_key_has_8192_bytes_at_most = refl
