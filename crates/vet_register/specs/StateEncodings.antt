-- How a state is stored (ours).
use Rattle.std.specs.Prelude.{ℕ, List}
use Rattle.std.specs.Coded.{Coded, code_by, coded×, coded_list, coded_ℕ}
use Rattle.std.proofs.Common.{refl}
use Rattle.vet_demand.specs.declared.policies.KeyedPolicy.{KeyedPolicy}
use Rattle.vet_demand.specs.declared.project.NamedProject.{NamedProject}
use Rattle.vet_desk.specs.DeskView.{DeskView}
use Rattle.vet_entries.specs.Facts.{FactsRoom}
use Rattle.vet_graph.specs.declared.standing.Counts.{Counts}
use Rattle.vet_register.specs.declared.moves.RecordedMove.{RecordedMove}
use Rattle.vet_register.specs.declared.tool_settings.ToolSettings.{ToolSettings}
use Rattle.vet_register.specs.State.{State}

-- a state is stored as the tuple of its parts, with no room for facts and the desk
abbrev pub state_code : Coded FactsRoom → Coded KeyedPolicy → Coded NamedProject → Coded ToolSettings → Coded DeskView
    → Coded Counts → Coded RecordedMove → Coded State
state_code facts_code policy_code project_code settings_code desk_code counts_code move_code =
    code_by (FactsRoom × (List KeyedPolicy × (List NamedProject × (ToolSettings × (DeskView × (ℕ × (ℕ × (ℕ
    × (Counts × List RecordedMove)))))))))
    (coded× facts_code (coded× (coded_list policy_code) (coded× (coded_list project_code)
    (coded× settings_code (coded× desk_code (coded× coded_ℕ (coded× coded_ℕ (coded× coded_ℕ
    (coded× counts_code (coded_list move_code))))))))))
    (λ s. (
      record { content = s.held.facts; room = record { entries = 0; peers = 0; packages = 0 } },
      (
        s.held.policies,
        (
          s.held.projects,
          (
            s.held.settings,
            (
              record { content = s.desk; room = record { members = 0; reviews = 0 } },
              (s.step, (s.next_entry, (s.moves_limit, (s.first, s.moves)))),
            ),
          ),
        ),
      ),
    ))
    (λ p. record {
      held = record {
        facts = p.0.content;
        policies = p.1.0;
        projects = p.1.1.0;
        settings = p.1.1.1.0;
      };
      desk = p.1.1.1.1.0.content;
      step = p.1.1.1.1.1.0;
      next_entry = p.1.1.1.1.1.1.0;
      moves_limit = p.1.1.1.1.1.1.1.0;
      first = p.1.1.1.1.1.1.1.1.0;
      moves = p.1.1.1.1.1.1.1.1.1;
    })
    (λ _. refl)
