-- What a step says of a text in the words of the grammar, and how steps compose.
use Rattle.std.proofs.Common.{◌≡◌, ℕ, ◌<◌, Bool, true, false, ◌&&◌, List, [], ◌∷◌, ◌++◌, length, refl, sym, ap, ◌∙◌, subst, arith, append-nil}
use Rattle.std.specs.Prelude.{⊤, nat_lt, ◌==◌}
use Rattle.std.proofs.lemmas.Bool.{eqb-true, eqb-false}
use Rattle.std.proofs.lemmas.Bool.Decides.{nat_tests}
use Rattle.std.proofs.lemmas.List.Elements.{All-nil, All-cons, All-head, All-tail}
use Rattle.httparse.specs.Grammar.{AllPass}
use Rattle.httparse.specs.Pieces.{Piece, Begins, Then, Refutes, NotYet, Never, Completes, Bytes, Word}
use Rattle.httparse.proofs.RunLemmas.{run_unique, run_unstopped}
use Rattle.httparse.proofs.PieceLemmas.{IsDeterministic, Refutes_by, Never_intro, NotYet_intro, Never_elim, NotYet_elim, Refutes_first, Refutes_next, front-append}
use Rattle.httparse.proofs.OpenLemmas.{Completes_first, Completes_next, Word_cut}
use Rattle.pp_head.specs.Step.{Step, Done, Short, Wrong, map_step, and_then, push_first, cut, read_bytes, word_of, read_word}

-- what a step says of the text, where Open is what may follow a text that is cut short
abbrev pub Says : {A : Type 0} → Piece A → (List ℕ → Type 0) → List ℕ → Step A → Type 0
Says G Open text (Done a rest) = G a text rest
Says G Open text Short = NotYet (Begins G) text × Open text
Says G Open text Wrong = Never (Begins G) text

pub record Tells {A : Type 0} (G : Piece A) (Open : List ℕ → Type 0) (text : List ℕ) (s : Step A) : Type 0 where
  pub says : Says G Open text s

abbrev pub Reads : {A : Type 0} → Piece A → (List ℕ → Step A) → Type 0
Reads G reader = (text : List ℕ) → Tells G (Completes G) text (reader text)

-- ---- steps put together

pub map_tells : {A B : Type 0} {G : Piece A} {H : Piece B} {P Q : List ℕ → Type 0} {text all : List ℕ} (f : A → B) {s : Step A}
    → Tells G P text s → ((a : A) (rest : List ℕ) → G a text rest → H (f a) all rest)
    → ((M : List ℕ → Type 0) → Refutes M (Begins G) text → Refutes M (Begins H) all)
    → (P text → Q all) → Tells H Q all (map_step f s)
map_tells f {s = Done a rest} t good bad cut_short = record { says = good a rest t.says }
map_tells f {s = Short} t good bad cut_short = record { says = (bad _ t.says.0, cut_short t.says.1) }
map_tells f {s = Wrong} t good bad cut_short = record { says = bad _ t.says }

next_tells : {A B : Type 0} {G : Piece A} {H : Piece B} {P Q : List ℕ → Type 0} → IsDeterministic G
    → {text rest : List ℕ} (a : A) → G a text rest → {s : Step B} → Tells H P rest s → (P rest → Q text)
    → Tells (Then G H) Q text (map_step (λ b. (a, b)) s)
next_tells det {rest} a g {s = Done b end} t cut_short = record { says = (rest, g, t.says) }
next_tells {H} det a g {s = Short} t cut_short = record { says = (Refutes_next H det {a = a} g t.says.0, cut_short t.says.1) }
next_tells {H} det a g {s = Wrong} t cut_short = record { says = Refutes_next H det {a = a} g t.says }

pub then_tells : {A B : Type 0} {G : Piece A} {H : Piece B} {O P Q : List ℕ → Type 0} → IsDeterministic G
    → {text : List ℕ} {s : Step A} (next : List ℕ → Step B) → Tells G O text s
    → ((rest : List ℕ) → Tells H P rest (next rest))
    → (O text → Q text) → ((a : A) (rest : List ℕ) → G a text rest → P rest → Q text)
    → Tells (Then G H) Q text (and_then s next)
then_tells det {s = Done a rest} next t u first second = next_tells det a t.says (u rest) (second a rest t.says)
then_tells {G} {H} det {s = Short} next t u first second = record { says = (Refutes_first G H t.says.0, first t.says.1) }
then_tells {G} {H} det {s = Wrong} next t u first second = record { says = Refutes_first G H t.says }

-- the same, where both can be completed
pub both_tell : {A B : Type 0} {G : Piece A} {H : Piece B} → IsDeterministic G → Completes H []
    → {text : List ℕ} {s : Step A} (next : List ℕ → Step B) → Tells G (Completes G) text s → Reads H next
    → Tells (Then G H) (Completes (Then G H)) text (and_then s next)
both_tell det some next t u =
    then_tells det next t u (λ x. Completes_first x some) (λ a rest g x. Completes_next det {a = a} g x)

-- what the grammar has there is what is read

pub finds : {A : Type 0} {G : Piece A} {O : List ℕ → Type 0} {text rest : List ℕ} (a : A) {s : Step A} → IsDeterministic G
    → Tells G O text s → G a text rest → s ≡ Done a rest
finds {text} {rest} a {s = Done b r} det t g = let same = det.unique b a text r rest t.says g in cc (same.0, same.1)
finds {rest} a {s = Short} det t g = absurd (NotYet_elim t.says.0 (a, rest, g))
finds {text} {rest} a {s = Wrong} det t g = absurd (Never_elim t.says [] (a, rest ++ [], det.append a text rest [] g))

-- ---- bytes

bytes_more : {b c : ℕ} (bytes text : List ℕ) → b ≡ c → (s : Step ⊤) → Tells (Bytes bytes) (Completes (Bytes bytes)) text s
    → Tells (Bytes (b ∷ bytes)) (Completes (Bytes (b ∷ bytes))) (c ∷ text) s
bytes_more bytes text e (Done u rest) t = let is = t.says in record { says = cc }
bytes_more bytes text e Short t = record { says = (Refutes_by (λ more h. (tt, h.1, cc h.2)) t.says.0, record { more = t.says.1.more; tree = tt; reads = λ rest. cc (t.says.1.reads rest) }) }
bytes_more bytes text e Wrong t = record { says = Refutes_by (λ more h. (tt, h.1, cc h.2)) t.says }

pub bytes_tell : (bytes : List ℕ) → Reads (Bytes bytes) (read_bytes bytes)
bytes_tell [] text = record { says = refl }
bytes_tell (b ∷ bytes) [] = record { says = (NotYet_intro (λ h. cc h.2), record { more = b ∷ bytes; tree = tt; reads = λ rest. refl }) }
bytes_tell (b ∷ bytes) (c ∷ text) = by (b == c) refl (bytes_tell bytes text)
  where
    by : (v : Bool) → (b == c) ≡ v → Tells (Bytes bytes) (Completes (Bytes bytes)) text (read_bytes bytes text)
        → Tells (Bytes (b ∷ bytes)) (Completes (Bytes (b ∷ bytes))) (c ∷ text) (elim v [ true ↦ read_bytes bytes text | false ↦ Wrong ])
    by true is t = bytes_more bytes text (eqb-true b c is) (read_bytes bytes text) t
    by false is t = record { says = Never_intro (λ more h. eqb-false b c is (cc h.2)) }

-- ---- the longest front that passes

abbrev pub Ends : (ℕ → Bool) → List ℕ → Type 0
Ends test [] = ⊤
Ends test (b ∷ rest) = test b ≡ false

pub record IsCut (test : ℕ → Bool) (text : List ℕ) (p : List ℕ × List ℕ) : Type 0 where
  pub whole : text ≡ p.0 ++ p.1
  pub pass : AllPass test p.0
  pub ends : Ends test p.1

pub cut_is : (test : ℕ → Bool) (text : List ℕ) → IsCut test text (cut test text)
cut_is test [] = record { whole = refl; pass = All-nil _; ends = tt }
cut_is test (b ∷ text) = by (test b) refl (cut_is test text)
  where
    by : (v : Bool) → test b ≡ v → IsCut test text (cut test text)
        → IsCut test (b ∷ text) (elim v [ true ↦ push_first b (cut test text) | false ↦ ([], b ∷ text) ])
    by true is c = record { whole = ap (λ (t : List ℕ). b ∷ t) c.whole; pass = All-cons (λ v. test v ≡ true) b _ is c.pass; ends = c.ends }
    by false is c = record { whole = refl; pass = All-nil _; ends = is }

pub cut_all : (test : ℕ → Bool) (text : List ℕ) → AllPass test text → cut test text ≡ (text, [])
cut_all test [] all = refl
cut_all test (b ∷ text) all = let is = All-head (λ v. test v ≡ true) b text all in let more = cut_all test text (All-tail (λ v. test v ≡ true) b text all) in rw (is, more, cut) refl

-- ---- words

abbrev pub OpenWord : (ℕ → Bool) → ℕ → List ℕ → Type 0
OpenWord test stop text = Completes (Word test stop) text × AllPass test text

word_by : (test : ℕ → Bool) (stop b0 : ℕ) → test stop ≡ false → test b0 ≡ true → {text : List ℕ} (word rest : List ℕ)
    → IsCut test text (word, rest) → Tells (Word test stop) (OpenWord test stop) text (word_of stop (word, rest))
word_by test stop b0 fails passes word [] c =
    let all : AllPass test _ = subst (AllPass test) (sym (c.whole ∙ append-nil word)) c.pass in
    record { says = (NotYet_intro (λ h. run_unstopped test h.0 (stop ∷ h.1) (subst (AllPass test) h.2.2 all) fails), (Word_cut test stop b0 passes all, all)) }
word_by test stop b0 fails passes {text} word (b ∷ rest) c = by (b == stop) refl (nat_lt 0 (length word)) refl
  where
    same : (more w r : List ℕ) → Word test stop w (text ++ more) r → (word ≡ w) × (b ∷ (rest ++ more) ≡ stop ∷ r)
    same more w r h = run_unique test word w (b ∷ (rest ++ more)) (stop ∷ r) c.pass h.1 c.ends fails (sym (front-append text word (b ∷ rest) more c.whole) ∙ h.2)

    by : (v : Bool) → (b == stop) ≡ v → (u : Bool) → nat_lt 0 (length word) ≡ u
        → Tells (Word test stop) (OpenWord test stop) text (elim (v && u) [ true ↦ Done word rest | false ↦ Wrong ])
    by true is true some = record { says = (grind (arith, nat_tests), c.pass, c.whole ∙ ap (λ (x : ℕ). word ++ x ∷ rest) (eqb-true b stop is)) }
    by true is false none = record { says = Never_intro (λ more h. let e = (same more h.0 h.1 h.2).0 in let l : 0 < length word = subst (λ (w : List ℕ). 0 < length w) (sym e) h.2.0 in grind (arith, nat_tests)) }
    by false is u some = record { says = Never_intro (λ more h. eqb-false b stop is (cc (same more h.0 h.1 h.2).1)) }

pub word_tells : (test : ℕ → Bool) (stop b0 : ℕ) → test stop ≡ false → test b0 ≡ true → (text : List ℕ)
    → Tells (Word test stop) (OpenWord test stop) text (read_word test stop text)
word_tells test stop b0 fails passes text = word_by test stop b0 fails passes (cut test text).0 (cut test text).1 (cut_is test text)

pub weaker : {A : Type 0} {G : Piece A} {P Q : List ℕ → Type 0} {text : List ℕ} {s : Step A} → Tells G P text s → (P text → Q text) → Tells G Q text s
weaker {s = Done a rest} t f = record { says = t.says }
weaker {s = Short} t f = record { says = (t.says.0, f t.says.1) }
weaker {s = Wrong} t f = record { says = t.says }
