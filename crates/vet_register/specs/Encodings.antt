-- How a register is stored (ours).
use Rattle.std.specs.Prelude.{ℕ, List}
use Rattle.std.specs.Coded.{Coded, code_by, coded×, coded_list, coded_ℕ}
use Rattle.std.proofs.Common.{refl}
use Rattle.vet_base.specs.Encodings.{keyed_code}
use Rattle.vet_base.specs.Keyed.{KeyedRoom}
use Rattle.vet_demand.specs.declared.policies.KeyedPolicy.{KeyedPolicy}
use Rattle.vet_demand.specs.declared.project.NamedProject.{NamedProject}
use Rattle.vet_desk.specs.DeskView.{DeskView}
use Rattle.vet_entries.specs.Facts.{FactsRoom}
use Rattle.vet_graph.specs.declared.standing.Counts.{Counts}
use Rattle.vet_register.specs.declared.moves.RecordedMove.{RecordedMove}
use Rattle.vet_register.specs.declared.tool_settings.ToolSettings.{ToolSettings}
use Rattle.vet_register.specs.RegisterView.{RegisterView, desk_room, held_room}

-- a register is stored as the tuple of its keeper, the parts of its state, and its rooms
abbrev pub register_code : {K : Type 0}
    → Coded K → Coded FactsRoom → Coded KeyedPolicy → Coded NamedProject → Coded ToolSettings → Coded DeskView
    → Coded Counts → Coded RecordedMove → Coded (RegisterView K)
register_code {K} keeper_code facts_code policy_code project_code settings_code desk_code counts_code move_code =
    code_by (K × (DeskView × (FactsRoom × (KeyedRoom KeyedPolicy × (KeyedRoom NamedProject
    × (ToolSettings × (ℕ × (ℕ × (ℕ × (Counts × (List RecordedMove × ℕ)))))))))))
    (coded× keeper_code (coded× desk_code (coded× facts_code
    (coded× (keyed_code policy_code) (coded× (keyed_code project_code)
    (coded× settings_code (coded× coded_ℕ (coded× coded_ℕ (coded× coded_ℕ
    (coded× counts_code (coded× (coded_list move_code) coded_ℕ)))))))))))
    (λ r. (
      r.keeper,
      (
        desk_room r,
        (
          (held_room r).facts,
          (
            (held_room r).policies,
            (
              (held_room r).projects,
              (
                r.state.held.settings,
                (
                  r.state.step,
                  (r.state.next_entry, (r.state.moves_limit, (r.state.first, (r.state.moves, r.room.moves)))),
                ),
              ),
            ),
          ),
        ),
      ),
    ))
    (λ p. record {
      keeper = p.0;
      state = record {
        held = record {
          facts = p.1.1.0.content;
          policies = p.1.1.1.0.items;
          projects = p.1.1.1.1.0.items;
          settings = p.1.1.1.1.1.0;
        };
        desk = p.1.0.content;
        step = p.1.1.1.1.1.1.0;
        next_entry = p.1.1.1.1.1.1.1.0;
        moves_limit = p.1.1.1.1.1.1.1.1.0;
        first = p.1.1.1.1.1.1.1.1.1.0;
        moves = p.1.1.1.1.1.1.1.1.1.1.0;
      };
      room = record {
        held = record { facts = p.1.1.0.room; policies = p.1.1.1.0.room; projects = p.1.1.1.1.0.room };
        desk = p.1.0.room;
        moves = p.1.1.1.1.1.1.1.1.1.1.1;
      };
    })
    (λ _. refl)
