-- Which row a reply is read from, and what it shows, on a worked log: the words of the laws hold of it, and are false where it is another key's row,
-- or where the body stands elsewhere.
use Rattle.std.proofs.Common.{◌≡◌, refl, ℕ, ◌+◌, Bool, true, false, ◌==◌, ◌&&◌, not, List, [], ◌∷◌, ◌++◌, length, codes, bytes_eq, None, Some, sym, ap, ◌∙◌, arith}
use Rattle.std.specs.List.{list_any}
use Rattle.pp_fresh.specs.Ready.{is_ready}
use Rattle.pp_target.specs.Key.{Key, text_of}
use Rattle.pp_world.specs.Log.{Log}
use Rattle.pp_world.specs.declared.happening.Happening.TheVariants.{CanRead, CanWrite, Said, Dialled, Reached, Asked, Got, Noted}
use Rattle.pp_world.specs.declared.note.Decision.TheVariants.{Hit, Fetch}
use Rattle.pp_world.specs.declared.note.Remark.TheVariants.{Taken}
use Rattle.pp_law.proofs.OnLiterals.{pp_law_on_literals}
use Rattle.pp_law.specs.Lawful.{first_fault}
use Rattle.pp_law.specs.Lists.{Bytes, is_some_with}
use Rattle.pp_law.specs.Phases.{come_to_decide}
use Rattle.pp_law.specs.Requests.{Parsed, front_of, key_in, parsed_of}
use Rattle.pp_law.specs.Stages.{reply_of}
use Rattle.pp_law.specs.State.{State, Client, Instance, Reply}
use Rattle.pp_laws.specs.Runs.{state_after}
use Rattle.pp_laws_replies.specs.ByRow.{is_by_row}
use Rattle.pp_laws_replies.specs.Shown.{ShowsVersion, span_shown}
use Rattle.pp_laws_replies.proofs.Worked.{one_life, opening, client_sends, wait}

abbrev request : Bytes
request = codes "GET http://h/a HTTP/1.1\r\nHost: h\r\n\r\n"

abbrev parsed : Parsed
parsed = parsed_of (record { method = codes "GET"; target = codes "http://h/a"; minor = 1; fields = (codes "Host", codes "h") ∷ []; length = 36 })

-- it is fetched, and may be kept for a minute
abbrev fetched : Log
fetched =
    opening ++ client_sends request ++ Noted (Taken 1 0 Fetch) ∷ Dialled 2 (codes "h") 80 ∷ wait (1 ∷ []) [] ∷ Reached 2 ∷ wait (1 ∷ 2 ∷ []) (2 ∷ []) ∷ CanWrite 2
    ∷ Asked 2 (codes "GET /a HTTP/1.1\r\nhost: h\r\nvia: 1.1 polipo\r\n\r\n") ∷ wait (1 ∷ 2 ∷ []) []
    ∷ CanRead 2 ∷ Got 2 (codes "HTTP/1.1 200 OK\r\nETag: \"x\"\r\nCache-Control: max-age=60\r\nContent-Length: 5\r\n\r\nhello") ∷ []

hit_is_lawful : first_fault one_life (fetched ++ Noted (Taken 1 0 (Hit 0 5)) ∷ []) ≡ None
unfolding pp_law_on_literals
hit_is_lawful = refl

-- the row of the key that the request names, and that it is fresh by the clock of then
abbrev is_fresh_in : State → Bool
is_fresh_in s = list_any (λ x. not x.is_retired && (bytes_eq x.key (codes "http://h/a") && is_ready parsed.head.fields x.fields x.times s.clock)) s.instances

hit_is_fresh : is_fresh_in (come_to_decide (state_after one_life fetched)) ≡ true
unfolding pp_law_on_literals
hit_is_fresh = refl

abbrev key : Key
key = record { host = codes "h"; port = 80; path = codes "/a" }

-- the row of another key is none that it may be answered from
not_anothers : (k : Key) → key_in (front_of request) ≡ Some k → codes "http://h/b" ≡ text_of k → ⊥
unfolding pp_law_on_literals
not_anothers k names is =
    let same : key ≡ k = cc in
    let both : false ≡ true = ap (λ t. bytes_eq (codes "http://h/b") t) (ap text_of same ∙ sym is) in
    cc both

-- ---- the reply shows its version

abbrev head : Bytes
head = codes "HTTP/1.1 200 OK\r\netag: \"x\"\r\ndate: Sun, 06 Nov 1994 08:49:37 GMT\r\ncache-control: max-age=60\r\nvia: 1.1 polipo\r\ncontent-length: 5\r\nconnection: keep-alive\r\n\r\n"

-- the head is said, and two bytes of the body
abbrev shown : Log
shown = fetched ++ Noted (Taken 1 0 (Hit 0 5)) ∷ wait (1 ∷ 2 ∷ []) (1 ∷ []) ∷ CanWrite 1 ∷ Said 1 (length (head ++ codes "he")) (head ++ codes "he") ∷ []

shown_is_lawful : first_fault one_life shown ≡ None
unfolding pp_law_on_literals
shown_is_lawful = refl

-- the next one is the third
abbrev is_at_third : Client → Bool
is_at_third c = is_some_with (λ r. r.has_begun && (is_by_row r.decision && ((r.at == 2) && (r.to == 5)))) (reply_of c)

third_is_next : list_any is_at_third (state_after one_life shown).clients ≡ true
unfolding pp_law_on_literals
third_is_next = refl

-- so it is not one of which three bytes were said
never_further : (instances : List Instance) (r : Reply) (text : Bytes) → r.at ≡ 2 → ShowsVersion instances parsed r text (codes "hel") → ⊥
never_further instances r text at w = far (span_shown w.kind w.version.length).0 r.at w.place at
  where
    far : (a b : ℕ) → a + 3 ≡ b → b ≡ 2 → ⊥
    far a b one two = omega arith
