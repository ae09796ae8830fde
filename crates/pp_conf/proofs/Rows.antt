-- Worked settings: words, texts, and what comes of them.
use Rattle.std.proofs.Common.{◌≡◌, refl, ℕ, Bool, true, false, List, [], ◌∷◌, ◌++◌, Option, Some, None, Result, Ok, Err, codes, replicate}
use Rattle.clap.proofs.OnLiterals.{clap_on_literals}
use Rattle.clap.specs.Walk.{Text}
use Rattle.std.specs.Prelude.{⊤}
use Rattle.std.specs.Str.{is_utf8, chars}
use lib.Utf8.{encode}
use Rattle.pp_text.proofs.Table.{Rows}
use Rattle.std.specs.Net.Reader.{read_ipv4, read_octet, read_number}
use Rattle.pp_world.specs.declared.door.AddressRange.{AddressRange}
use Rattle.pp_conf.specs.Addresses.{address_of, are_ranges, range_of, ranges_of}
use Rattle.pp_conf.specs.Settings.{accepts}
use Rattle.pp_conf.specs.Words.{file_of, has_reading, reading_of, Told, Serves, ShowsDemo, Refusal, NoReading, TooLong, NotUnderstood, OutOfRange}
use Rattle.pp_conf.specs.declared.setting.Setting.{Setting}
use Rattle.pp_conf.specs.declared.setting.Setting.TheVariants.{ProxyPort, ProxyAddress, AllowedClients, ProxyName, DiskCacheRoot, ChunkLowMark, ChunkHighMark, ChunkCriticalMark, DiskRun, MaxTurns, ShareFetches, PipelineAsks, HostConnections, AccessLog}

-- what a definition of text has to unfold on a literal
unfoldable on_literals : ⊤
unfolding clap_on_literals is_utf8 chars encode address_of read_ipv4 read_octet read_number
on_literals = tt

-- the port to listen on, or the seed of a demo
abbrev number_in : Told → ℕ
number_in (Serves c) = c.port
number_in (ShowsDemo seed) = seed

abbrev came : Result Told Refusal → Result ℕ Refusal
came (Ok told) = Ok (number_in told)
came (Err why) = Err why

-- of a text, without words
abbrev of_text : List ℕ → Result ℕ Refusal
of_text text = came (reading_of [] (Some text))

without_words_each_setting_has_its_default : reading_of [] None ≡ Ok (Serves (record {
  port = 8123;
  address = 2130706433;
  allowed = record { address = 2130706432; bits = 8 } ∷ [];
  name = codes "polipo";
  root = codes "polipo-cache";
  low = 2560;
  high = 3072;
  critical = 4096;
  disk_run = 16;
  max_turns = 140737488355327;
  shares_fetches = true;
  pipelines_asks = false;
  host_connections = 8;
  access_log = [];
}))
unfolding on_literals
without_words_each_setting_has_its_default = refl

a_value_outside_its_range_is_named : Rows of_text (
    (codes "proxyPort=0", Err (OutOfRange ProxyPort))
    ∷ (codes "proxyPort=1", Ok 1)
    ∷ (codes "proxyPort=65535", Ok 65535)
    ∷ (codes "proxyPort=65536", Err (OutOfRange ProxyPort))
    ∷ (codes "proxyPort=08", Err (OutOfRange ProxyPort))
    ∷ (codes "proxyPort=-8", Err (OutOfRange ProxyPort))
    ∷ (codes "proxyPort=", Err (OutOfRange ProxyPort))
    ∷ (codes "proxyAddress=", Err (OutOfRange ProxyAddress))
    ∷ (codes "proxyAddress=localhost", Err (OutOfRange ProxyAddress))
    ∷ (codes "proxyAddress=127.0.0.2", Ok 8123)
    ∷ (codes "proxyAddress=127.0.0.0/8", Err (OutOfRange ProxyAddress))
    ∷ (codes "proxyAddress=0.0.0.0", Err (OutOfRange AllowedClients))
    ∷ (codes "proxyAddress=192.168.1.5\nallowedClients=127.0.0.0/8", Err (OutOfRange AllowedClients))
    ∷ (codes "allowedClients=192.168.0.0/16\nproxyAddress=0.0.0.0", Ok 8123)
    ∷ (codes "proxyAddress=192.168.1.5\nallowedClients=127.0.0.1, 192.168.1.6", Ok 8123)
    ∷ (codes "proxyAddress=128.0.0.1\nallowedClients=126.0.0.0/7", Ok 8123)
    ∷ (codes "allowedClients=", Err (OutOfRange AllowedClients))
    ∷ (codes "allowedClients=192.168.1.7/16", Err (OutOfRange AllowedClients))
    ∷ (codes "proxyName=", Err (OutOfRange ProxyName))
    ∷ (codes "proxyName=az.AZ-09_", Ok 8123)
    ∷ (codes "proxyName=a/b", Err (OutOfRange ProxyName))
    ∷ (codes "proxyName=" ++ (195 ∷ 169 ∷ []), Err (OutOfRange ProxyName))
    ∷ (codes "diskCacheRoot=", Err (OutOfRange DiskCacheRoot))
    ∷ (codes "diskCacheRoot=/" ++ (195 ∷ 169 ∷ codes "="), Ok 8123)
    ∷ (codes "diskCacheRoot=a" ++ (0 ∷ codes "b"), Err (OutOfRange DiskCacheRoot))
    ∷ (codes "diskCacheRoot=" ++ (233 ∷ []), Err (OutOfRange DiskCacheRoot))
    ∷ (codes "chunkLowMark=511", Err (OutOfRange ChunkLowMark))
    ∷ (codes "chunkLowMark=512", Ok 8123)
    ∷ (codes "chunkLowMark=3072", Ok 8123)
    ∷ (codes "chunkLowMark=3073", Err (OutOfRange ChunkHighMark))
    ∷ (codes "chunkLowMark=65537", Err (OutOfRange ChunkLowMark))
    ∷ (codes "chunkHighMark=2559", Err (OutOfRange ChunkHighMark))
    ∷ (codes "chunkHighMark=2560", Ok 8123)
    ∷ (codes "chunkHighMark=4096", Ok 8123)
    ∷ (codes "chunkHighMark=4097", Err (OutOfRange ChunkCriticalMark))
    ∷ (codes "chunkHighMark=65537", Err (OutOfRange ChunkHighMark))
    ∷ (codes "chunkCriticalMark=3071", Err (OutOfRange ChunkCriticalMark))
    ∷ (codes "chunkCriticalMark=3072", Ok 8123)
    ∷ (codes "chunkCriticalMark=65536", Ok 8123)
    ∷ (codes "chunkCriticalMark=65537", Err (OutOfRange ChunkCriticalMark))
    ∷ (codes "diskRun=0", Err (OutOfRange DiskRun))
    ∷ (codes "diskRun=1", Ok 8123)
    ∷ (codes "diskRun=64", Ok 8123)
    ∷ (codes "diskRun=65", Err (OutOfRange DiskRun))
    ∷ (codes "maxTurns=0", Err (OutOfRange MaxTurns))
    ∷ (codes "maxTurns=1", Ok 8123)
    ∷ (codes "maxTurns=140737488355327", Ok 8123)
    ∷ (codes "maxTurns=140737488355328", Err (OutOfRange MaxTurns))
    ∷ (codes "shareFetches=0", Ok 8123)
    ∷ (codes "shareFetches=2", Err (OutOfRange ShareFetches))
    ∷ (codes "pipelineAsks=1", Ok 8123)
    ∷ (codes "pipelineAsks=2", Err (OutOfRange PipelineAsks))
    ∷ (codes "hostConnections=0", Err (OutOfRange HostConnections))
    ∷ (codes "hostConnections=1", Ok 8123)
    ∷ (codes "hostConnections=64", Ok 8123)
    ∷ (codes "hostConnections=65", Err (OutOfRange HostConnections))
    ∷ (codes "accessLog=\ndiskCacheRoot=", Err (OutOfRange DiskCacheRoot))
    ∷ (codes "accessLog=-", Ok 8123)
    ∷ (codes "accessLog=/var/log/a=b " ++ (195 ∷ 169 ∷ []), Ok 8123)
    ∷ (codes "accessLog=a" ++ (0 ∷ codes "b"), Err (OutOfRange AccessLog))
    ∷ (codes "accessLog=" ++ (233 ∷ []), Err (OutOfRange AccessLog))
    ∷ (codes "accessLog=" ++ replicate 255 97, Ok 8123)
    ∷ (codes "accessLog=" ++ replicate 256 97, Err (OutOfRange AccessLog))
    ∷ (codes "chunkHighMark=3000\nchunkLowMark=3001", Err (OutOfRange ChunkHighMark))
    ∷ (codes "chunkLowMark=4000\nchunkHighMark=4000", Ok 8123)
    ∷ (codes "diskRun=65\nproxyPort=0\ndiskRun=1", Err (OutOfRange DiskRun))
    ∷ [])
unfolding on_literals
a_value_outside_its_range_is_named = refl

an_address_is_four_numbers_from_0_to_255 : Rows address_of (
    (codes "127.0.0.1", Some 2130706433)
    ∷ (codes "0.0.0.0", Some 0)
    ∷ (codes "255.255.255.255", Some 4294967295)
    ∷ (codes "1.2.3.256", None)
    ∷ (codes "1.2.3", None)
    ∷ (codes "1.2.3.4.5", None)
    ∷ (codes "1.2..4", None)
    ∷ (codes "01.2.3.4", None)
    ∷ (codes "1.2.3.04", None)
    ∷ (codes "1.2.3.4 ", None)
    ∷ (codes "0x1.2.3.4", None)
    ∷ (codes "::1", None)
    ∷ (codes "", None)
    ∷ [])
unfolding on_literals
an_address_is_four_numbers_from_0_to_255 = refl

a_range_is_an_address_and_the_length_of_its_prefix : Rows range_of (
    (codes "192.168.0.0/16", Some (record { address = 3232235520; bits = 16 }))
    ∷ (codes "192.168.1.7", Some (record { address = 3232235783; bits = 32 }))
    ∷ (codes "192.168.1.7/32", Some (record { address = 3232235783; bits = 32 }))
    ∷ (codes "0.0.0.0/0", Some (record { address = 0; bits = 0 }))
    ∷ (codes "128.0.0.0/0", None)
    ∷ (codes "192.168.1.7/31", None)
    ∷ (codes "1.2.3.4/33", None)
    ∷ (codes "10.0.0.0/08", None)
    ∷ (codes "10.0.0.0/", None)
    ∷ (codes "10.0.0.0/8/8", None)
    ∷ (codes "10.0.0.0 /8", None)
    ∷ (codes "10/8", None)
    ∷ [])
unfolding on_literals
a_range_is_an_address_and_the_length_of_its_prefix = refl

clients_are_1_to_16_ranges_between_commas : Rows {B = Bool × List AddressRange} (λ (t : List ℕ). (are_ranges t, ranges_of t)) (
    (codes "", (false, []))
    ∷ (codes " , ", (false, []))
    ∷ (codes "10.0.0.0/8", (true, record { address = 167772160; bits = 8 } ∷ []))
    ∷ (codes "10.0.0.0/8, 127.0.0.1", (true, record { address = 167772160; bits = 8 } ∷ record { address = 2130706433; bits = 32 } ∷ []))
    ∷ (codes "10.0.0.0/8 127.0.0.1", (false, []))
    ∷ [])
unfolding on_literals
clients_are_1_to_16_ranges_between_commas = refl

seventeen_are_too_many : Rows are_ranges (
    (codes "10.0.0.1,10.0.0.2,10.0.0.3,10.0.0.4,10.0.0.5,10.0.0.6,10.0.0.7,10.0.0.8,10.0.0.9,10.0.0.10,10.0.0.11,10.0.0.12,10.0.0.13,10.0.0.14,10.0.0.15,10.0.0.16", true)
    ∷ (codes "10.0.0.1,10.0.0.2,10.0.0.3,10.0.0.4,10.0.0.5,10.0.0.6,10.0.0.7,10.0.0.8,10.0.0.9,10.0.0.10,10.0.0.11,10.0.0.12,10.0.0.13,10.0.0.14,10.0.0.15,10.0.0.16,10.0.0.17", false)
    ∷ [])
unfolding on_literals
seventeen_are_too_many = refl

a_text_is_lines_of_a_name_and_a_value : Rows of_text (
    (codes "", Ok 8123)
    ∷ (codes "proxyPort=9\n", Ok 9)
    ∷ (codes "proxyPort=9", Ok 9)
    ∷ (codes "# proxyPort=0\n\n \t\n\t#\r\nproxyPort=9", Ok 9)
    ∷ (codes "\t proxyPort \t=\t 9 \t\r\n", Ok 9)
    ∷ (codes "proxyPort = \"9\"\n", Ok 9)
    ∷ (codes "proxyPort=9\nproxyName=p\nproxyPort=10\n", Ok 10)
    ∷ (codes "proxyPort=9\r", Err (OutOfRange ProxyPort))
    ∷ (codes "proxyPort=9\r\r\n", Err (OutOfRange ProxyPort))
    ∷ (codes "proxyPort=\"9", Err (OutOfRange ProxyPort))
    ∷ (codes "proxyPort=\"", Err (OutOfRange ProxyPort))
    ∷ (codes "proxyPort=\" 9\"", Err (OutOfRange ProxyPort))
    ∷ (codes "proxyPort=9=9", Err (OutOfRange ProxyPort))
    ∷ (codes "proxyPort=9 # nine", Err (OutOfRange ProxyPort))
    ∷ (codes "# x\nproxyPort 9\n", Err (NotUnderstood 2))
    ∷ (codes "\n\r\nnonsense\nmore\n", Err (NotUnderstood 3))
    ∷ (codes "proxyport=9", Err (NotUnderstood 1))
    ∷ (codes "=9", Err (NotUnderstood 1))
    ∷ (codes "proxyPort=0\n\"proxyPort\"=9", Err (NotUnderstood 2))
    ∷ (codes "proxyPort=0\nproxyPort=9", Err (OutOfRange ProxyPort))
    ∷ [])
unfolding on_literals
a_text_is_lines_of_a_name_and_a_value = refl

a_text_has_at_most_65536_bytes : Rows (λ (n : ℕ). of_text (replicate n 35)) (
    (65536, Ok 8123)
    ∷ (65537, Err TooLong)
    ∷ [])
unfolding on_literals
a_text_has_at_most_65536_bytes = refl

a_name_has_64_bytes_and_a_folder_255 : Rows (λ (t : Setting × ℕ). accepts t.0 (replicate t.1 120)) (
    ((ProxyName, 64), true)
    ∷ ((ProxyName, 65), false)
    ∷ ((DiskCacheRoot, 255), true)
    ∷ ((DiskCacheRoot, 256), false)
    ∷ [])
unfolding on_literals
a_name_has_64_bytes_and_a_folder_255 = refl

words_come_after_the_text : Rows (λ (t : List Text × List ℕ). came (reading_of t.0 (Some t.1))) (
    ((codes "proxyPort=10" ∷ [], codes "proxyPort=9"), Ok 10)
    ∷ ((codes "-c" ∷ codes "f" ∷ codes "proxyPort=10" ∷ codes "proxyPort=11" ∷ [], codes ""), Ok 11)
    ∷ ((codes "proxyPort=10" ∷ codes "-cf" ∷ codes "diskRun=1" ∷ [], codes ""), Ok 10)
    ∷ ((codes "--" ∷ codes "proxyPort=10" ∷ [], codes ""), Ok 10)
    ∷ ((codes "proxyPort=0" ∷ [], codes "diskRun=0"), Err (OutOfRange DiskRun))
    ∷ ((codes "proxyPort=0" ∷ [], codes "x"), Err (NotUnderstood 1))
    ∷ ((codes "-g" ∷ codes "7" ∷ [], codes "x"), Ok 7)
    ∷ ((codes "-g" ∷ codes "18446744073709551615" ∷ [], codes ""), Ok 18446744073709551615)
    ∷ ((codes "-g" ∷ codes "18446744073709551616" ∷ [], codes ""), Err NoReading)
    ∷ ((codes "-g" ∷ codes "x" ∷ [], codes ""), Err NoReading)
    ∷ ((codes "-g" ∷ [], codes ""), Err NoReading)
    ∷ ((codes "-g" ∷ codes "7" ∷ codes "-g" ∷ codes "7" ∷ [], codes ""), Err NoReading)
    ∷ ((codes "-g" ∷ codes "7" ∷ codes "-c" ∷ codes "f" ∷ [], codes ""), Err NoReading)
    ∷ ((codes "-g" ∷ codes "7" ∷ codes "diskRun=1" ∷ [], codes ""), Err NoReading)
    ∷ ((codes "-c" ∷ codes "f" ∷ codes "-c" ∷ codes "f" ∷ [], codes ""), Err NoReading)
    ∷ ((codes "-c" ∷ [], codes ""), Err NoReading)
    ∷ ((codes "--help" ∷ [], codes ""), Err NoReading)
    ∷ ((codes "--version" ∷ [], codes ""), Err NoReading)
    ∷ ((codes "nonsense" ∷ [], codes "x"), Err NoReading)
    ∷ ((codes "proxyport=1" ∷ [], codes ""), Err NoReading)
    ∷ ((codes "=1" ∷ [], codes ""), Err NoReading)
    ∷ ((codes "" ∷ codes "" ∷ [], codes ""), Err NoReading)
    ∷ [])
unfolding on_literals
words_come_after_the_text = refl

the_file_is_named_by_c : Rows {B = Bool × Option Text} (λ (words : List Text). (has_reading words, file_of words)) (
    ([], (true, None))
    ∷ (codes "diskRun=9" ∷ [], (true, None))
    ∷ (codes "diskRun=9" ∷ codes "-c" ∷ codes "f" ∷ [], (true, Some (codes "f")))
    ∷ (codes "-cf=g" ∷ [], (true, Some (codes "f=g")))
    ∷ (codes "-c" ∷ codes "f" ∷ codes "nonsense" ∷ [], (false, Some (codes "f")))
    ∷ [])
unfolding on_literals
the_file_is_named_by_c = refl
