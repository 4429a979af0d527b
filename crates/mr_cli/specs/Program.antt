-- What the program answers, and where it says it.
use Rattle.std.specs.Prelude.{◌≡◌, ◌⊎◌, ℕ, List, [], option_map}
use Rattle.clap.specs.Matches.{subcommand_name_of}
use Rattle.clap.specs.Simple.{subcommand_rows_of}
use Rattle.clap.specs.declared.parser.matches.ArgMatches.{ArgMatches}
use Rattle.mr_files.specs.Holding.{ChangesAmong, Faulty, Stored}
use Rattle.mr_files.specs.Identities.{Known}
use Rattle.mr_store.specs.Devices.{Seen}
use Rattle.mr_args.specs.declared.request.Subcommand.{Subcommand}
use Rattle.mr_args.specs.declared.fault.Fault.{Fault}
use Rattle.mr_commands.specs.Commands.{Answers, ChangesOwn, IsRefusal, PrintsOwn}
use Rattle.mr_cli.specs.declared.failure.Failure.{Failure}
use Rattle.mr_cli.specs.declared.failure.Failure.TheVariants.{NoCommand, Command}
use Rattle.mr_cli.specs.Parsed.{IsAskedBy}
use Rattle.mr_cli.specs.Statuses.{no_memory_left}

-- the command is that of the parsed line, with its options
abbrev pub IsAskedIn : ArgMatches → Subcommand → Type 0
IsAskedIn parsed asked = IsAskedBy (subcommand_name_of parsed) (option_map (λ p. p.1) (subcommand_rows_of parsed)) asked

-- the parsed command was done, and nothing else changed than the files that it writes
pub record IsDone (parsed : ArgMatches) (old new : Stored) (unreadable : Faulty) (known : Known) (before after : Seen) (text : List ℕ) (status : ℕ) : Type 0 where
  pub asked : Subcommand
  pub named : IsAskedIn parsed asked
  pub answers : Answers old new unreadable known asked before after text status
  pub others : ChangesOwn old new asked
  pub prints : PrintsOwn asked before after

-- the parsed command was refused, by this fault
pub record IsRefused (parsed : ArgMatches) (old new : Stored) (unreadable unwritable : Faulty) (alike : List ℕ → List ℕ → Type 0) (known : Known) (before after : Seen) (fault : Fault) : Type 0 where
  pub asked : Subcommand
  pub named : IsAskedIn parsed asked
  pub refused : IsRefusal old new unreadable unwritable alike known asked before after fault
  pub prints : PrintsOwn asked before after

-- nothing is changed or printed
abbrev pub IsStill : Stored → Stored → Seen → Seen → Type 0
IsStill old new before after = ChangesAmong old new [] × (after ≡ before)

-- why the parsed line is not answered: by a fault of its command, or as there was no memory for its options
abbrev pub IsUnanswered : ArgMatches → Stored → Stored → Faulty → Faulty → (List ℕ → List ℕ → Type 0) → Known → Seen → Seen → Failure → Type 0
IsUnanswered parsed old new unreadable unwritable alike known before after (Command fault) =
    ((Command fault ≡ no_memory_left) × IsStill old new before after) ⊎ IsRefused parsed old new unreadable unwritable alike known before after fault
IsUnanswered parsed old new unreadable unwritable alike known before after NoCommand = IsStill old new before after
IsUnanswered parsed old new unreadable unwritable alike known before after failure = ⊥
