pub mod KnownPolicies
