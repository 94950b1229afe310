-- Reports by example (ours). On three days, in turn, serde 1.0.1 is demanded, vouched for to be run, and no longer
-- demanded.
use Rattle.std.specs.Prelude.{ℕ, List, [], ◌∷◌, ◌++◌, Option, Some, None, codes}
use Rattle.std.specs.FinSet as set
use Rattle.vet_base.specs.Day.{DayValue}
use Rattle.vet_base.specs.Version.{VersionValue}
use Rattle.vet_base.specs.Words.{Name, Text}
use Rattle.vet_demand.specs.declared.pair.Pair.{Pair}
use Rattle.vet_desk.specs.declared.review.Review.{Review}
use Rattle.vet_desk.specs.declared.review.ReviewState.{ReviewState}
use Rattle.vet_entries.specs.declared.entry.Source.TheVariants.{Own}
use Rattle.vet_entries.specs.declared.facts.HeldEntry.{HeldEntry}
use Rattle.vet_entries.specs.declared.kind.Kind.TheVariants.{Exemption}
use Rattle.vet_graph.specs.declared.class.Class.{Class}
use Rattle.vet_graph.specs.declared.class.Class.TheVariants.{Full, Unvetted}
use Rattle.vet_graph.specs.declared.standing.Stand.{Stand}
use Rattle.vet_register.specs.Flow.{arrivals, departures}
use Rattle.vet_register.specs.State.{changes_of, no_counts}
use Rattle.vet_register.specs.declared.moves.RecordedMove.{RecordedMove}
use Rattle.vet_reports.specs.declared.counts_text.CountsTable.{CountsTable}
use Rattle.vet_reports.specs.declared.standing_text.Filter.{Filter}

-- ---- what is reported

-- a day of May 2024
abbrev pub in_may : ℕ → DayValue
in_may day = record { year = 2024; month = 5; day = day }

abbrev pub version : VersionValue
version = record { parts = (1, 0, 1, [], []); revision = None }

abbrev pub pair_for : Name → Pair
pair_for criterion = record { «package» = codes "serde"; version = version; criterion = criterion }

abbrev pub to_deploy : Pair
to_deploy = pair_for (codes "safe-to-deploy")

abbrev pub to_run : Pair
to_run = pair_for (codes "safe-to-run")

-- the standing on the second day, and another with a criterion whose name has a comma and a quote
abbrev pub standing : List Stand
standing = record { pair = to_deploy; class = Unvetted } ∷ record { pair = to_run; class = Full } ∷ []

abbrev pub standing_with_comma : List Stand
standing_with_comma = record { pair = pair_for (codes "a,\"b\""); class = Full } ∷ []

-- all pairs, those of another package, and those of a class
abbrev pub all_pairs : Filter
all_pairs = record { «package» = None; class = None }

abbrev pub of_log : Filter
of_log = record { «package» = Some (codes "log"); class = None }

abbrev pub in_full : Filter
in_full = record { «package» = Some (codes "serde"); class = Some Full }

abbrev pub move_on : ℕ → Pair → Option Class → Option Class → RecordedMove
move_on day pair before after =
    record { step = day; day = in_may day; change = record { pair = pair; before = before; after = after } }

-- the moves of three days, a step on each
abbrev pub moves : List RecordedMove
moves =
    move_on 1 to_deploy None (Some Unvetted)
    ∷ move_on 1 to_run None (Some Unvetted)
    ∷ move_on 2 to_run (Some Unvetted) (Some Full)
    ∷ move_on 3 to_deploy (Some Unvetted) None
    ∷ move_on 3 to_run (Some Full) None ∷ []

-- the counts after them
abbrev pub counts : CountsTable
counts = record {
  first = no_counts;
  arrived = arrivals (changes_of moves);
  departed = departures (changes_of moves);
  present = no_counts;
}

-- the names of one criterion, and of two
abbrev pub deploy_alone : List Name
deploy_alone = codes "safe-to-deploy" ∷ []

abbrev pub both_built_in : List Name
both_built_in = codes "safe-to-deploy" ∷ codes "safe-to-run" ∷ []

-- a review in a state; its criteria are given separately
abbrev pub review_in : ReviewState → Review
review_in state = record {
  number = 1;
  «package» = codes "serde";
  version = version;
  criteria = set.empty;
  day = in_may 1;
  state = state;
}

-- an exemption without a last day, and a day that may be its last day; its criteria are given separately
abbrev pub exemption : HeldEntry
exemption = record {
  number = 1;
  entry = record {
    source = Own;
    «package» = codes "serde";
    kind = Exemption version None None;
    criteria = set.empty;
    notes = None;
  };
}

abbrev pub last_of_may : DayValue
last_of_may = in_may 31

-- ---- their texts

abbrev pub counts_report : Text
counts_report =
    codes "class            first   arrived  departed       now\n"
    ++ codes "conflicting          0         0         0         0\n"
    ++ codes "full                 0         1         1         0\n"
    ++ codes "partial              0         0         0         0\n"
    ++ codes "exempted             0         0         0         0\n"
    ++ codes "unvetted             0         2         2         0\n"
    ++ codes "demand               0         3         3         0\n"

abbrev pub standing_report : Text
standing_report =
    codes "serde                    1.0.1                safe-to-deploy       unvetted\n"
    ++ codes "serde                    1.0.1                safe-to-run          full\n"

abbrev pub full_report : Text
full_report = codes "serde                    1.0.1                safe-to-run          full\n"

abbrev pub moves_report : Text
moves_report =
    codes "       1 2024-05-01 serde                    1.0.1                "
    ++ codes "safe-to-deploy       none        unvetted\n"
    ++ codes "       1 2024-05-01 serde                    1.0.1                "
    ++ codes "safe-to-run          none        unvetted\n"
    ++ codes "       2 2024-05-02 serde                    1.0.1                safe-to-run          unvetted    full\n"
    ++ codes "       3 2024-05-03 serde                    1.0.1                safe-to-deploy       unvetted    none\n"
    ++ codes "       3 2024-05-03 serde                    1.0.1                safe-to-run          full        none\n"

abbrev pub waiting_line : Text
waiting_line =
    codes "       1 2024-05-01 serde                    1.0.1                "
    ++ codes "waiting   -                       - safe-to-deploy,safe-to-run\n"

abbrev pub assigned_line : Text
assigned_line =
    codes "       1 2024-05-01 serde                    1.0.1                "
    ++ codes "assigned  ann                     - safe-to-deploy\n"

abbrev pub withdrawn_line : Text
withdrawn_line =
    codes "       1 2024-05-01 serde                    1.0.1                "
    ++ codes "withdrawn -                       - safe-to-deploy\n"

abbrev pub finished_line : Text
finished_line =
    codes "       1 2024-05-01 serde                    1.0.1                "
    ++ codes "finished  -                       1 safe-to-deploy\n"

abbrev pub held_line : Text
held_line =
    codes "       1 2024-05-31 serde                    1.0.1                "
    ++ codes "held   safe-to-deploy,safe-to-run\n"

abbrev pub lapsed_line : Text
lapsed_line =
    codes "       1 2024-05-31 serde                    1.0.1                "
    ++ codes "lapsed safe-to-deploy\n"

abbrev pub csv_report : Text
csv_report =
    codes "package,version,criterion,class\n"
    ++ codes "serde,1.0.1,safe-to-deploy,unvetted\n"
    ++ codes "serde,1.0.1,safe-to-run,full\n"

abbrev pub csv_with_comma : Text
csv_with_comma = codes "package,version,criterion,class\n" ++ codes "serde,1.0.1,\"a,\"\"b\"\"\",full\n"
