-- What the law says nothing of: a file that is no entry; and what it refuses: kept bytes that nobody sent.
use Rattle.std.proofs.Common.{◌≡◌, refl, ℕ, [], ◌∷◌, codes, Some, subst}
use Rattle.pp_world.specs.Files.{Files, file_of}
use Rattle.pp_law.proofs.OnLiterals.{pp_law_on_literals}
use Rattle.pp_law.specs.Entries.{entry_in, entries_in}
use Rattle.pp_law.specs.Lists.{Bytes}
use Rattle.pp_law.specs.State.{Entry}
use Rattle.pp_laws.specs.Origin.{AllSent}
use Rattle.pp_laws_crash.specs.Crash.{IsBacked, kept_bytes}

-- a folder with one file, too short for the head of an entry
abbrev folder : Files
folder = (codes "0cc175b9c0f1b6a831c399e269772661", codes "hello") ∷ []

no_entry : entries_in folder ≡ []
unfolding pp_law_on_literals
no_entry = refl

-- where nothing was sent, no entry that keeps a byte is backed
none_backs : (image : Files) (name file : Bytes) (e : Entry) (b : ℕ) (bytes : Bytes) → file_of name image ≡ Some file → entry_in name file ≡ Some e → kept_bytes e file ≡ b ∷ bytes → IsBacked [] image → ⊥
none_backs image name file e b bytes there is kept backed = (subst (λ (xs : Bytes). AllSent [] e.key e.version 0 xs) kept (backed name file there e is)).0
