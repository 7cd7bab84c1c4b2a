pub mod WorstJobs
