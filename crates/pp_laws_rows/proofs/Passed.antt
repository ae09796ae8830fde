-- What is passed, on a worked log: what was said, the pipe and the data that came; and what the law refuses: data that were lost.
use Rattle.std.proofs.Common.{◌≡◌, refl, ℕ, true, false, List, [], ◌∷◌, ◌++◌, map, filter_map, codes, None, sym, ap, ◌∙◌}
use Rattle.std.specs.List.{concat}
use Rattle.pp_world.specs.Log.{Log}
use Rattle.pp_world.specs.Streams.{said}
use Rattle.pp_world.specs.declared.happening.Happening.{Happening}
use Rattle.pp_world.specs.declared.happening.Happening.TheVariants.{Woke, Waits, CanRead, CanWrite, Clock, Opened, Heard, Said, Dialled, Reached, Asked, Got, Noted, Rooted, Listed, Listens}
use Rattle.pp_world.specs.declared.note.Decision.TheVariants.{Pass}
use Rattle.pp_world.specs.declared.note.Remark.TheVariants.{Taken}
use Rattle.pp_law.proofs.OnLiterals.{pp_law_on_literals}
use Rattle.pp_law.specs.Lawful.{first_fault}
use Rattle.pp_law.specs.Lists.{Bytes}
use Rattle.pp_law.specs.Responses.{payload_of}
use Rattle.pp_law.specs.Stages.{passed_of}
use Rattle.pp_law.specs.State.{Term, Conn, Passed}
use Rattle.pp_laws.specs.Runs.{state_after}
use Rattle.pp_laws_passed.specs.Passed.{all_spelled, IsRelayed}

abbrev one_life : List Term
one_life = record { words = codes "diskRun=1" ∷ codes "pipelineAsks=1" ∷ codes "hostConnections=4" ∷ []; faults = 0 } ∷ []

-- it waits to accept, and for these to be read and to be written
abbrev wait : List ℕ → List ℕ → Happening
wait read write = Waits (record { accept = true; read = record { items = read }; write = record { items = write } })

abbrev head : Bytes
head = codes "HTTP/1.1 200 OK\r\nvia: 1.1 polipo\r\ncontent-length: 10\r\nconnection: keep-alive\r\n\r\n"

-- half of a body came, in two reads, and its first byte was said behind the head
abbrev half : Log
half =
    Woke [] ∷ Rooted (codes "polipo-cache") ∷ Listed true ∷ Listens 8123 true ∷ wait [] [] ∷ Clock 784111777 ∷ wait [] []
    ∷ Opened 1 ∷ wait (1 ∷ []) [] ∷ CanRead 1 ∷ Heard 1 (codes "GET http://h/a HTTP/1.1\r\nHost: h\r\nCache-Control: no-store\r\n\r\n") ∷ Noted (Taken 1 0 Pass)
    ∷ Dialled 2 (codes "h") 80 ∷ wait (1 ∷ []) [] ∷ Reached 2 ∷ wait (1 ∷ 2 ∷ []) (2 ∷ []) ∷ CanWrite 2
    ∷ Asked 2 (codes "GET /a HTTP/1.1\r\nhost: h\r\ncache-control: no-store\r\nvia: 1.1 polipo\r\n\r\n") ∷ wait (1 ∷ 2 ∷ []) []
    ∷ CanRead 2 ∷ Got 2 (codes "HTTP/1.1 200 OK\r\nContent-Length: 10\r\n\r\nAB") ∷ wait (1 ∷ 2 ∷ []) (1 ∷ [])
    ∷ CanRead 2 ∷ Got 2 (codes "CDE") ∷ wait (1 ∷ 2 ∷ []) (1 ∷ [])
    ∷ CanWrite 1 ∷ Said 1 85 (head ++ codes "A") ∷ wait (1 ∷ 2 ∷ []) (1 ∷ []) ∷ []

half_is_lawful : first_fault one_life half ≡ None
unfolding pp_law_on_literals
half_is_lawful = refl

-- what came of its body, and what of it was said and is the next to be said
five_came : map payload_of (filter_map (λ (k : Conn). k.answer) (state_after one_life half).conns) ≡ codes "ABCDE" ∷ []
unfolding pp_law_on_literals
five_came = refl

one_was_said : said 1 half ≡ head ++ codes "A"
unfolding said
one_was_said = refl

four_are_next : map (λ (p : Passed). p.pipe.bytes) (filter_map passed_of (state_after one_life half).clients) ≡ codes "BCDE" ∷ []
unfolding pp_law_on_literals
four_are_next = refl

-- ---- nothing is lost

plain : (pieces : List Bytes) → all_spelled false pieces ≡ concat pieces
plain [] = refl
plain (piece ∷ pieces) = ap (λ (xs : Bytes). piece ++ xs) (plain pieces)

second_of_nothing : (xs ys : Bytes) → [] ≡ xs ++ ys → ys ≡ []
second_of_nothing [] ys is = sym is
second_of_nothing (x ∷ xs) ys is = absurd (cc is)

-- where nothing was said and nothing is left, nothing came
none_lost : (p : Passed) (byte : ℕ) (bytes : Bytes) → p.pipe.is_coded ≡ false → p.pipe.bytes ≡ [] → IsRelayed [] [] p (byte ∷ bytes) → ⊥
none_lost p byte bytes uncoded empty w =
    let text : all_spelled p.pipe.is_coded w.pieces ≡ [] = second_of_nothing w.shown.head _ (sym (second_of_nothing w.shown.earlier (w.shown.head ++ all_spelled p.pipe.is_coded w.pieces) (sym empty ∙ w.shown.stream))) in
    let both : byte ∷ bytes ≡ [] = sym w.all ∙ sym (plain w.pieces) ∙ ap (λ b. all_spelled b w.pieces) (sym uncoded) ∙ text in
    cc both
